use Rattle.std.proofs.Common.{◌≡◌, ◌≤◌, ℕ, List, [], length, drop, Some, None, Option, Bor, unwrap_or, sym, refl, ◌∙◌, arith}
use Rattle.std.specs.Slice.{IsGetRangeResult}
use Rattle.std.proofs.lemmas.List.{drop_all, take_rest}
use Rattle.report.proofs.input.Input.rest.Goals as goal

rest_or_none : (xs : List ℕ) (n : ℕ) (r : Option (Bor (List ℕ))) (none : Bor (List ℕ)) → none.now ≡ [] → IsGetRangeResult xs n (length xs) r →
    (unwrap_or r none).now ≡ drop n xs
rest_or_none xs n None none e got =
    let short : length xs ≤ n = omega (arith, got.0) in
    e ∙ sym (drop_all n xs short)
rest_or_none xs n (Some rest) none e got = got.0.2 ∙ take_rest xs n

pub returns : goal.returns
returns c = record {
  rest_is_all_behind = rw c.unwrap_or.ensures (rest_or_none c.args.self.now.bytes.now c.args.at c.get.result _ refl c.get.ensures.lookup);
}
