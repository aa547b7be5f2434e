use Rattle.std.proofs.Common.{sym}
use Rattle.controller.proofs.Kept.{mounted_is_safe}
use Rattle.controller.proofs.ready.Ready.mount.Goals as goal

pub returns-clause-accepted_is_safe : goal.returns-clause-accepted_is_safe
returns-clause-accepted_is_safe g c =
    let s = c.self.inside in
    let taken = c.in_ok-self-inside in
    mounted_is_safe (g.L.Lattice.order s.grades.lattice) s.grades.levels c.args.bytes.now taken.field-0
    (g.met.L.Lattice.lawful s.grades.lattice) c.self.invariant.0 (sym taken.ensures.fault_is_the_first) taken.ensures.program_is_what_the_bytes_say
