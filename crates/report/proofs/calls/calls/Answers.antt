use Rattle.std.proofs.Common.{◌≡◌, refl, ap, ◌∙◌, rules}
use Rattle.std.specs.Array.Iter.{array_into_iter_items}
use Rattle.std.proofs.lemmas.Iterator.{YieldsList-from_map_by, YieldsList-from_range}
use Rattle.std.proofs.lemmas.Iterator.Consumers.{YieldsList-from_chain}
use Rattle.controller.specs.Lists.{grade, set}
use Rattle.controller.specs.Views.{call_of}
use Rattle.report.specs.Input.{level, value, each, calls}
use Rattle.report.proofs.CallFacts.{from_array, from_collect, all_parts}
use Rattle.report.proofs.calls.calls.Goals as goal

pub returns : goal.returns
unfolding each
returns c =
    let bytes = c.args.input.now.bytes.now in
    let first = c.chain-3.result.a in
    let sealed : first.a ≡ c.chain.result = cc in
    let graded : first.a.a ≡ c.map.result = cc in
    let were_set : first.b ≡ c.map-2.result = cc in
    let budget_is = c.budget.ensures.budget_is_four_bytes in
    let observer_is = c.observer.ensures.observer_is_two_bytes in
    let parts = all_parts bytes c.job.result.now c.budget.result c.observer.result c.job.ensures.job_is_the_rest budget_is observer_is in
    let grades_made = ap (λ m. m.f) graded ∙ c.map.ensures.closure in
    let sets_made = ap (λ m. m.f) were_set ∙ c.map-2.ensures.closure in
    let variables = YieldsList-from_range 0 32 32 (cc) refl in
    let sets_variables = YieldsList-from_range 0 32 32 (cc) refl in
    let between = ap (λ m. array_into_iter_items m.b) sealed ∙ c.chain.ensures.second.0 in
    from_collect {v = call_of} c.collect.result (calls bytes) c.collect.ensures.ran parts
    (YieldsList-from_chain {s = c.chain-3.result}
    (YieldsList-from_chain {s = first}
    (YieldsList-from_chain {s = first.a}
    (YieldsList-from_map_by {s = first.a.a} _ call_of (λ v. grade v (level bytes v)) variables grades_made (λ x r q k. search rules))
    (from_array call_of first.a.b _ between) (cc) (cc))
    (YieldsList-from_map_by {s = first.b} _ call_of (λ v. set v (value bytes v)) sets_variables sets_made (λ x r q k. search rules)) (cc) (cc))
    (from_array call_of c.chain-3.result.b _ c.chain-3.ensures.second.0) (cc) (cc))
