use Rattle.std.proofs.Common.{ap, ◌∙◌}
use Rattle.std.specs.Str.{bytes_eq}
use Rattle.conformance.specs.Findings.{agrees}
use Rattle.conformance.proofs.table.Case.agrees.Goals as goal

pub returns : goal.returns
unfolding agrees
returns c =
    let given = c.as_bytes.ensures.value ∙ c.in_ok-given.ensures.is_the_text_asked in
    record {
      true_where_as_expected = c.eq.ensures ∙ ap (λ text. bytes_eq text c.args.self.now.expected.now) given;
    }
