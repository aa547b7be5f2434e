-- What the private functions of a run say: a step, and where the steps end. Assumes nothing.
use Rattle.std.specs.Prelude.{ℕ, Bool, ◌&&◌, List, length, ℤ, None, Option, nat_lt, ◌==◌, is_some, unwrap_or, if◌then◌else◌}
use Rattle.push.specs.declared.value.Value.{Value}
use Rattle.push.specs.declared.status.Status.{Status}
use Rattle.push.specs.declared.status.Status.TheVariants.{Halted}
use Rattle.push.specs.Machine.{Machine, step}
use Rattle.push.specs.Run.{ProgramRun, is_going, label_of, stack_of, values_of}

-- What the next step makes of its machine: nothing where the run has stopped, or where no rule applies.
abbrev pub next : ProgramRun → Option Machine
next r = if is_going r.state.status then step r.program r.state.machine else None

-- Whether a step is made, and the run then. The status stays, since it is settled where the steps end.
abbrev pub stepped : ProgramRun → Option Machine → Bool × ProgramRun
stepped r after = (
  is_some after,
  record {
    program = r.program;
    state = record { status = r.state.status; machine = unwrap_or after r.state.machine };
  },
)

-- The same by what is made of the label, the stack and the values.
abbrev pub stepped_by :
    ProgramRun → (ℕ → List Value → List ℤ → Option Machine) → Bool × ProgramRun
stepped_by r makes =
    let m : Machine = r.state.machine in stepped r (makes (label_of m) (stack_of m) (values_of m))

-- Where so many steps end, a run that is going becomes halted if they came to the exit, and otherwise what is said.
abbrev pub settled : ℕ → Status → ProgramRun → ProgramRun
settled steps otherwise r =
    let halts : Bool = nat_lt 0 steps && (label_of r.state.machine == length r.program) in
    let status : Status = if halts then Halted else otherwise in
    record {
      program = r.program;
      state = record {
        status = if is_going r.state.status then status else r.state.status;
        machine = r.state.machine;
      };
    }
