-- A program that was decoded goes no further than its exit. Assumes nothing.
use Rattle.std.proofs.Common.{◌≡◌, ℕ, zero, suc, ◌+◌, ◌<◌, ◌≤◌, List, [], ◌∷◌, length, get_or, Some, None, Option, sym, refl, ap, ◌∙◌, subst, ⊎_elim, arith}
use Rattle.std.specs.List.{Contains, flat_map}
use Rattle.std.specs.Option.{option_to_list}
use Rattle.std.proofs.lemmas.Option.{slice_get_within}
use Rattle.push.specs.declared.instruction.Instruction.{Instruction}
use Rattle.push.specs.declared.instruction.Instruction.TheVariants.{Goto, GotoF}
use Rattle.push.specs.Code.{fetch}
use Rattle.push.specs.Language.{successors}
use Rattle.job.specs.Layout.{Sizes}
use Rattle.checker.specs.Region.{from_instruction}
use Rattle.checker.specs.RegionList.{LabelsWithin}
use Rattle.checker.specs.Verdict.{code_below}
use Rattle.checker.proofs.ContainsFacts.{contains_first, contains_rest, contains_cases, contains_none}
use Rattle.checker.proofs.SoundFacts as sound
use Rattle.checker.proofs.SoundFacts.{Sound, all_fetched, code_sound}

only : (x y : ℕ) → Contains (y ∷ []) x → x ≡ y
only x y c = ⊎_elim (λ (e : x ≡ y). e) (λ (k : Contains [] x). absurd (contains_none x k)) (contains_cases y [] x c)

pub successors_within : (n l next : ℕ) (i : Instruction) → Sound n i → l < n → Contains (successors i l) next → next ≤ n
successors_within n l next (Goto m) (sound.goto h) lt a = omega (arith, only next m a)
successors_within n l next (GotoF m j) (sound.gotof h k) lt a =
    ⊎_elim (λ (e : next ≡ l + 1). omega arith) (λ (c : Contains (m ∷ []) next). omega (arith, only next m c)) (contains_cases (l + 1) (m ∷ []) next a)
successors_within n l next i h lt a = omega (arith, only next (l + 1) a)

module _ (n : ℕ) (code : List Instruction) (long : length code ≡ n) (few : n ≤ 128)
    (sounds : (label : ℕ) (i : Instruction) → fetch code label ≡ Some i → Sound n i) where
  next_within : (label next : ℕ) (i : Option Instruction) → fetch code label ≡ i → Contains (from_instruction i label) next → next ≤ n
  next_within label next None e a = absurd (contains_none next a)
  next_within label next (Some i) e a =
      successors_within n label next i (sounds label i e) (omega (arith, long, slice_get_within code label i e)) a

  junction_within : (i : Instruction) (m j : ℕ) → Sound n i → i ≡ GotoF m j → j ≤ n
  junction_within (GotoF t k) m j (sound.gotof _ h) e = let same : k ≡ j = cc in omega (arith, h, same)
  junction_within _ m j h e = cc

  pub labels_within : LabelsWithin code
  labels_within =
      record {
        few = omega (arith, long, few);
        next = λ label next a. omega (arith, long, next_within label next (fetch code label) refl a);
        junction = λ label m j e. omega (arith, long, junction_within (GotoF m j) m j (sounds label (GotoF m j) e) refl);
      }

-- One of the answers of `successors` is among the labels that come next.
chosen : (found : List (Option ℕ)) (k x : ℕ) → get_or found k None ≡ Some x → Contains (flat_map option_to_list found) x
chosen [] k x e = cc
chosen (None ∷ found) zero x e = cc
chosen (Some y ∷ found) zero x e = let same : y ≡ x = cc in subst (λ z. Contains (z ∷ flat_map option_to_list found) x) (sym same) (contains_first x _)
chosen (None ∷ found) (suc k) x e = chosen found k x e
chosen (Some y ∷ found) (suc k) x e = contains_rest y _ x (chosen found k x e)

pub comes_within : (code : List Instruction) (label at : ℕ) (i : Instruction) (found : List (Option ℕ)) (k x : ℕ) → LabelsWithin code → at ≡ label →
    fetch code at ≡ Some i → flat_map option_to_list found ≡ successors i label → get_or found k None ≡ Some x → x ≤ 128
comes_within code label at i found k x ends e fetched is chose =
    let within =
    ends.next label x
    (subst (λ o. Contains (from_instruction o label) x) (sym (ap (fetch code) (sym e) ∙ fetched)) (subst (λ ls. Contains ls x) is (chosen found k x chose))) in
    omega (arith, within, ends.few)

pub decoded_labels_within : (bytes : List ℕ) (s : Sizes) → length (code_below bytes s s.instructions) ≡ s.instructions → s.instructions ≤ 128 →
    LabelsWithin (code_below bytes s s.instructions)
decoded_labels_within bytes s long few =
    labels_within s.instructions (code_below bytes s s.instructions) long few
    (all_fetched s.instructions (code_below bytes s s.instructions) (code_sound bytes s s.instructions))
