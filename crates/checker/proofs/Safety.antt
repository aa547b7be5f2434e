-- Accepted jobs never fault, and they keep closed values from open variables. Assumes the laws of the order.
use Rattle.std.proofs.Common.{ℕ, ◌<◌, List, sym, subst}
use Rattle.lattice.specs.Order.{Order, Laws}
use Rattle.checker.specs.Verdict.{job_in, decoded_code}
use Rattle.checker.specs.WellClaimed.{Mountable}
use Rattle.checker.specs.Flow.{NeverFaults, KeepsClosed, AcceptedJobsNeverFault, AcceptedJobsKeepClosed}
use Rattle.checker.proofs.Judgement.{judged}
use Rattle.checker.proofs.SoundFacts.{Sound, exit_is, fetched_sound, claims_are_levels}
use Rattle.checker.proofs.Typing.{Accepted, never_faults}
use Rattle.checker.proofs.TwoRuns.{keeps_closed}

module _ (o : Order) (levels bytes : List ℕ) where
  accepted : (m : Mountable o levels bytes) → Accepted o levels (job_in bytes m.sizes)
  accepted m =
      let d = m.decodes in
      let end = exit_is o bytes m.sizes d in
      record {
        well = m.well_claimed;
        sound = λ label i e. subst (λ n. Sound n i) (sym end) (fetched_sound o bytes m.sizes d label i e);
        leveled = λ label c lt e. claims_are_levels o bytes m.sizes d label c (subst (λ n. label < n) end lt) e;
      }

  pub accepted_jobs_never_fault : Laws o → AcceptedJobsNeverFault o levels bytes
  accepted_jobs_never_fault laws ok =
      let m = (judged o levels bytes).accepted_is_mountable ok in
      subst (λ x. NeverFaults (decoded_code bytes x)) (sym m.decodes.opened) (never_faults o laws levels (job_in bytes m.sizes) (accepted m))

  pub accepted_jobs_keep_closed : Laws o → AcceptedJobsKeepClosed o levels bytes
  accepted_jobs_keep_closed laws ok graded =
      let m = (judged o levels bytes).accepted_is_mountable ok in
      subst (λ x. KeepsClosed o levels (decoded_code bytes x)) (sym m.decodes.opened) (keeps_closed o laws levels graded (job_in bytes m.sizes) (accepted m))
