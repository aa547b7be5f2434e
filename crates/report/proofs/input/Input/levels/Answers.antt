use Rattle.std.proofs.Common.{rules}
use Rattle.report.specs.Input.{level}
use Rattle.report.proofs.EachFacts.{each_at}
use Rattle.report.proofs.Made.{made_at}
use Rattle.report.proofs.input.Input.levels.Goals as goal

pub returns : goal.returns
returns c =
    let bytes = c.args.self.now.bytes.now in
    let made = c.from_fn.ensures.items in
    let at = made_at _ _ _ (level bytes) 0 (λ i y q called. search rules) 32 made in
    record { has_the_level_of_each_variable = each_at (level bytes) c.from_fn.result 0 made.long at }
