-- What a writer answers, what the lent output then holds, and the laws above that.
use Rattle.std.specs.Prelude.{◌≡◌, ℕ, ◌<◌, ◌≤◌, cond, List, ◌++◌, length, drop, Ok, Err, Result, ◌≢◌, nat_lt}
use Rattle.turn_file.specs.declared.fault.FileFault.{FileFault}
use Rattle.turn_file.specs.declared.fault.FileFault.TheVariants.{TooLong, OutputTooShort, TrailingByte}
use Rattle.turn_file.specs.declared.fault.RecordFault.{RecordFault}
use Rattle.turn_file.specs.Fault.{in_file, longest_file}
use Rattle.turn_file.specs.Order.{FirstFault}
use Rattle.turn_file.specs.Plan.{PlanNumbers, plan_of}
use Rattle.turn_file.specs.Spelling.{Bytes}
use Rattle.turn_writer.specs.Judgement.{file_length}
use Rattle.turn_writer.specs.Records.{records_of, plan_spelling}

-- the output is judged last: it must have space for the file
abbrev pub with_space : ℕ → Result ℕ FileFault → Result ℕ FileFault
with_space space (Ok n) = cond (nat_lt space n) (Err OutputTooShort) (Ok n)
with_space space (Err f) = Err f

-- what a writer answers: the length of the file
abbrev pub written_length : PlanNumbers → ℕ → Result ℕ FileFault
written_length p space = with_space space (file_length p)

-- the output then: the file, and every byte behind it as it was; on a refusal all as it was
abbrev pub output_after : List ℕ → PlanNumbers → Result ℕ FileFault → List ℕ
output_after out p (Ok n) = plan_spelling p ++ drop n out
output_after out p (Err f) = out

-- a reader accepts the file, and reads the plan: the used numbers are the same
abbrev pub ReadsAs : List ℕ → PlanNumbers → Type 0
ReadsAs file p = (q : PlanNumbers) × (plan_of file ≡ Ok q) × (records_of q ≡ records_of p)

-- What a writer answers of a plan, for an output of so many bytes.
pub record Writes (p : PlanNumbers) (space : ℕ) (r : Result ℕ FileFault) : Type 0 where
  -- what is written is read as the plan
  pub accepted : (n : ℕ) → r ≡ Ok n → (n ≡ length (plan_spelling p)) × (n ≤ space) × ReadsAs (plan_spelling p) p
  -- a file that is read as the plan is what is written, wherever there is space for it
  pub accepts : (file : List ℕ) → Bytes file → ReadsAs file p →
      (file ≡ plan_spelling p) × (length file ≤ space → r ≡ Ok (length file))
  -- a record is refused as a reader of the plan's spelling would refuse it, and at the same place
  pub refused : (f : RecordFault) → r ≡ Err (in_file f) → FirstFault (plan_spelling p) (in_file f)
  -- the plan's spelling is above the longest file
  pub too_long : r ≡ Err TooLong → longest_file < length (plan_spelling p)
  -- a plan that a reader could read, and more bytes than the output has
  pub too_short : r ≡ Err OutputTooShort → (space < length (plan_spelling p)) × ReadsAs (plan_spelling p) p
  pub never_trailing : (place : ℕ) → r ≢ Err (TrailingByte place)

-- a length that tells what a writer answers, whatever space its output has
abbrev pub Measures : PlanNumbers → Result ℕ FileFault → Type 0
Measures p r = (space : ℕ) → Writes p space (with_space space r)
