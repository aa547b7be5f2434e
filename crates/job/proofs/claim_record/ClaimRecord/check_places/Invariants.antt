use Rattle.std.proofs.Common.{◌≡◌, None}
use Rattle.job.specs.First.{first_below}
use Rattle.job.specs.Records.{place_fault}
use Rattle.job.proofs.claim_record.ClaimRecord.check_places.Given as goal

abbrev pub invariant-loop-place : goal.invariant-loop-place
invariant-loop-place l =
    first_below (place_fault l.self.span l.self.places l.self.label l.self.place l.self.bytes.now) l.place ≡ None
