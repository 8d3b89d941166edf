-- Why no turn file is written, and the line that says so.
use Rattle.std.specs.Prelude.{◌≡◌, ℕ, List, ◌++◌, codes, decimal, Some, None, Option}
use Rattle.std.specs.IoError.{error_kind}
use Rattle.std.specs.declared.io.Error.{Error}
use Rattle.std.specs.declared.io.ErrorKind.TheVariants.{OutOfMemory}
use Rattle.turn_file.specs.declared.fault.FileFault.{FileFault}
use Rattle.turn_file.specs.Fault.{fault_numbers, fault_line}
use Rattle.compose.specs.declared.unreadable.Expected.{Expected}
use Rattle.compose.specs.declared.unreadable.Expected.TheVariants.{Word, Record, Algorithm, Number, EndOfLine}
use Rattle.compose.specs.declared.unreadable.Unreadable.{Unreadable}
use Rattle.compose.specs.declared.failure.Failure.{Failure}
use Rattle.compose.specs.declared.failure.Failure.TheVariants as failure

-- each lower error, held in a failure
abbrev pub unreadable : Unreadable → Failure
unreadable u = failure.Unreadable u

abbrev pub refused : FileFault → Failure
refused fault = failure.Refused fault

abbrev pub system : Error → Failure
system e = failure.System e

-- an error of the system, for want of memory
abbrev pub IsOutOfMemory : Failure → Type 0
IsOutOfMemory f = (e : Error) × (f ≡ failure.System e) × (error_kind e ≡ OutOfMemory)

-- what a text should have at some place
abbrev pub expected_text : Expected → List ℕ
expected_text (Word word) = word.now
expected_text (Record name number) = name.now ++ (codes " " ++ decimal number)
expected_text Algorithm = codes "ticket or mcs"
expected_text Number = codes "a number up to " ++ decimal 4294967295
expected_text EndOfLine = codes "the end of the line"

-- the line that says where a text cannot be read
abbrev pub unreadable_text : Unreadable → List ℕ
unreadable_text u = codes "line " ++ (decimal u.line ++ (codes ": expected " ++ expected_text u.expected))

-- nothing is said here of the text of an error of the system
abbrev pub failure_text : Failure → Option (List ℕ)
failure_text (failure.Unreadable u) = Some (unreadable_text u)
failure_text (failure.Refused fault) = Some (fault_line (fault_numbers fault))
failure_text (failure.System e) = None
