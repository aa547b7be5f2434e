use Rattle.std.proofs.Common.{ap}
use Rattle.checker.specs.Faults.{answer_to}
use Rattle.checker.proofs.Judgement.{judged}
use Rattle.checker.proofs.LeavingFacts.{leaves_the_kinds_after}
use Rattle.checker.proofs.RegionSet.{marks_are_the_region}
use Rattle.checker.proofs.Safety.{accepted_jobs_never_fault, accepted_jobs_keep_closed}
use Rattle.checker.proofs.verdict.check.Goals as goal

pub returns : goal.returns
returns g c =
    let order = g.L.Lattice.order c.args.lattice.now in
    let laws = g.met.L.Lattice.lawful c.args.lattice.now in
    record {
      answers_the_verdict = ap answer_to c.verdict_on_bytes.ensures.fault_is_the_first;
      fault_is_the_first = c.verdict_on_bytes.ensures.fault_is_the_first;
      program_is_what_the_bytes_say = c.verdict_on_bytes.ensures.program_is_what_the_bytes_say;
      accepts_exactly_the_mountable = judged order c.args.levels.now c.args.bytes.now;
      marks_are_the_region = marks_are_the_region;
      what_leaves_has_the_kinds_after = leaves_the_kinds_after;
      accepted_jobs_never_fault = accepted_jobs_never_fault order c.args.levels.now c.args.bytes.now laws;
      accepted_jobs_keep_closed = accepted_jobs_keep_closed order c.args.levels.now c.args.bytes.now laws;
    }
