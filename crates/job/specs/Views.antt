-- What the Rust values of a job and a claim are in the terms of Layout.antt and Records.antt. Assumes nothing.
use Rattle.std.specs.Prelude.{Ok, Err, Option, Result}
use Rattle.std.specs.Option.{option_map}
use Rattle.job.specs.declared.fault.RecordFault.{RecordFault}
use Rattle.job.specs.declared.claim.Claim.{Claim}
use Rattle.job.specs.declared.reader.Job.{Job}
use Rattle.job.specs.declared.instruction_fields.InstructionFields.{InstructionFields}
use Rattle.job.specs.Fields as plain
use Rattle.job.specs.Layout.{Sizes, record_at}
use Rattle.job.specs.Records.{Claimed, stack_in}

abbrev pub sizes : Job → Sizes
sizes j = record { instructions = j.instructions; places = j.places }

abbrev pub sizes_read : Result Job RecordFault → Result Sizes RecordFault
sizes_read (Ok j) = Ok (sizes j)
sizes_read (Err fault) = Err fault

-- What a claim of a job says: its stack is that of the record at its byte place.
abbrev pub claim_says : Job → Claim → Claimed
claim_says j c =
    record {
      surrounding = c.surrounding;
      stack = stack_in (record_at j.bytes.now (sizes j) c.record_place) c.depth;
    }

abbrev pub claimed : Job → Option Claim → Option Claimed
claimed j c = option_map (claim_says j) c

abbrev pub fields_of : InstructionFields → plain.InstructionFields
fields_of f = record { operation = f.operation; junction = f.junction; operand = f.operand }
