-- What is read of a file, and the place that is then reached.
use Rattle.std.specs.Prelude.{◌≡◌, ℕ, List, Ok, Err, Result}
use Rattle.turn_file.specs.declared.fault.RecordFault.{RecordFault}
use Rattle.turn_file.specs.declared.scan.Scan.{Scan}
use Rattle.turn_file.specs.declared.step.Step.{Step}
use Rattle.turn_file.specs.Reading.{Stepped, seen_step}

-- what is read, with the place after it; a fault tells no place
abbrev pub read_to : {A E : Type 0} → Result A E → ℕ → Result (A × ℕ) E
read_to (Ok a) at = Ok (a, at)
read_to (Err f) at = Err f

-- the place after what is passed
abbrev pub passed_to : {E : Type 0} → Result (Unit {0}) E → ℕ → Result ℕ E
passed_to (Ok done) at = Ok at
passed_to (Err f) at = Err f

-- what `found` finds at a place of a file is read there, and the same file is read on
abbrev pub Reads : {A E : Type 0} → (List ℕ → ℕ → Result (A × ℕ) E) → Scan → Result A E → Scan → Type 0
Reads found before r after = (read_to r after.place ≡ found before.file.now before.place) × (after.file ≡ before.file)

-- the scan passes to the place that `end` gives, and the same file is read on
abbrev pub Passes : {E : Type 0} → (List ℕ → ℕ → Result ℕ E) → Scan → Result (Unit {0}) E → Scan → Type 0
Passes end before r after = (passed_to r after.place ≡ end before.file.now before.place) × (after.file ≡ before.file)

-- the step from where a scan stands
abbrev pub Steps : (List ℕ → ℕ → Result Stepped RecordFault) → Scan → Result Step RecordFault → Type 0
Steps found before r = seen_step r ≡ found before.file.now before.place
