use Rattle.std.proofs.Common.{◌≡◌, ◌≤◌, map, drop, length}
use Rattle.job.specs.Records.{kind}
use Rattle.job.specs.Views.{claim_says}
use Rattle.job.proofs.reader.Job.stack_kinds.Given as goal

abbrev pub invariant-loop-place : goal.invariant-loop-place
invariant-loop-place l = record {
  so_far : l.kinds ≡ map kind (drop l.place (claim_says l.self l.claim).stack);
  room : length l.kinds ≤ 8;
}
