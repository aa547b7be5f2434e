-- The list of a region while it is read: when the last label has been read it is the region, the least set. Assumes nothing.
use Rattle.std.proofs.Common.{◌≡◌, ℕ, ◌+◌, ◌<◌, ◌≤◌, ◌≢◌, [], length, get_or, List, sym, ap, ◌∙◌, subst, ⊎_elim, arith}
use Rattle.std.specs.List.{Contains}
use Rattle.std.proofs.lemmas.Bool.{false≢true, cases_eq}
use Rattle.push.specs.declared.instruction.Instruction.{Instruction}
use Rattle.checker.specs.Region.{next_labels, Region, enter, onward}
use Rattle.checker.specs.RegionList.{RegionList, with_labels, WellListed, IsTheRegion, LabelsWithin}
use Rattle.checker.proofs.RegionListFacts.{Has, all_grow, all_have, all_only, as_many, has_at, place_of}

-- So many labels have been read: what comes after them, and after the branch, is in the list, but for the junction. All of
-- the list is in the region.
pub record Reading (code : List Instruction) (branch : ℕ) (r : RegionList) (read : ℕ) : Type 0 where
  pub inside : (label : ℕ) → Has r.labels label → Region code r.junction branch label
  pub entered : (label : ℕ) → Contains (next_labels code branch) label → label ≢ r.junction → Has r.labels label
  pub followed : (i label : ℕ) → i < read → Contains (next_labels code (get_or r.labels i 0)) label → label ≢ r.junction → Has r.labels label
  pub within : read ≤ length r.labels

module _ (code : List Instruction) (branch : ℕ) where
  pub begins : (j : ℕ) → Reading code branch (with_labels (record { junction = j; labels = [] }) (next_labels code branch)) 0
  begins j =
      let none : RegionList = record { junction = j; labels = [] } in
      let next = next_labels code branch in
      let same = (all_grow next none).junction in
      record {
        inside =
            λ label h.
            subst (λ k. Region code k branch label) (sym same)
            (⊎_elim (λ (p : Contains next label × (label ≢ j)). enter p.0 p.1) (λ (k : Has [] label). absurd (false≢true k)) (all_only next none label h));
        entered = λ label a ne. all_have next none label a (λ e. ne (e ∙ sym same));
        followed = λ i label lt. absurd (omega (arith, lt));
        within = omega arith;
      }

  pub goes_on : (r : RegionList) (n : ℕ) → Reading code branch r n → n < length r.labels →
      Reading code branch (with_labels r (next_labels code (get_or r.labels n 0))) (n + 1)
  goes_on r n k lt =
      let from : ℕ = get_or r.labels n 0 in
      let next = next_labels code from in
      let s : RegionList = with_labels r next in
      let g = all_grow next r in
      record {
        inside =
            λ label h.
            subst (λ j. Region code j branch label) (sym g.junction)
            (⊎_elim (λ (p : Contains next label × (label ≢ r.junction)). onward (k.inside from (has_at r.labels n lt)) p.0 p.1)
            (λ (m : Has r.labels label). k.inside label m)
            (all_only next r label h));
        entered = λ label a ne. g.keeps label (k.entered label a (λ e. ne (e ∙ sym g.junction)));
        followed =
            λ i label lower a ne.
            let apart : label ≢ r.junction = λ e. ne (e ∙ sym g.junction) in
            ⊎_elim
            (λ (e : i ≡ n).
            let stays : get_or s.labels i 0 ≡ from = ap (λ q. get_or s.labels q 0) e ∙ g.front n lt in
            all_have next r label (subst (λ q. Contains (next_labels code q) label) stays a) apart)
            (λ (other : i ≡ n → ⊥).
            let before : i < n = omega (arith, lower, other) in
            g.keeps label
            (k.followed i label before (subst (λ q. Contains (next_labels code q) label) (g.front i (omega (arith, before, lt))) a) apart))
            (cases_eq i n);
        within = omega (arith, lt, g.longer);
      }

  pub ends : (r : RegionList) (n : ℕ) → Reading code branch r n → length r.labels ≤ n → IsTheRegion code branch r
  ends r n k over label = (k.inside label, has_it)
    where
      has_it : {x : ℕ} → Region code r.junction branch x → Has r.labels x
      has_it (enter a ne) = k.entered _ a ne
      has_it {x} (onward {from = from} was a ne) =
          let p = place_of r.labels from (has_it was) in
          k.followed p.0 x (omega (arith, p.1, over)) (subst (λ q. Contains (next_labels code q) x) (sym p.2) a) ne

-- The labels of a region are at most as many as the instructions: it is without the junction, which is one of the labels
-- of the instructions and the exit.
pub region_within : {code : List Instruction} {j branch label : ℕ} → LabelsWithin code → Region code j branch label → label ≤ length code
region_within {branch = branch} e (enter a ne) = e.next branch _ a
region_within e (onward {from = from} was a ne) = e.next from _ a

pub few : (code : List Instruction) (branch : ℕ) (r : RegionList) → LabelsWithin code → r.junction ≤ length code → WellListed r → IsTheRegion code branch r →
    length r.labels ≤ length code
few code branch r e lower l is = as_many (length code) r l lower (λ label h. region_within e ((is label).0 h))
