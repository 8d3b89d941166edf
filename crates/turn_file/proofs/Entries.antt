-- One turn of the loop that passes the entries of a schedule.
use Rattle.std.proofs.Common.{◌≡◌, ℕ, suc, ◌+◌, ◌-◌, ◌<◌, List, Result, sym, ap, ◌∙◌, arith}
use Rattle.turn_file.specs.declared.fault.RecordFault.{RecordFault}
use Rattle.turn_file.specs.Record.{bind, entry_at, entries_end}

module _ (count i workers : ℕ) (file : List ℕ) where
  -- the end of the entries behind the one at `i`, once that is read
  abbrev pub after_one : Result (ℕ × ℕ) RecordFault → Result ℕ RecordFault
  after_one r = bind r (λ e. entries_end (count - (i + 1)) workers file e.1)

  -- what is read of one entry tells where all end
  pub one_passed : (at : ℕ) (r : Result (ℕ × ℕ) RecordFault) (whole : Result ℕ RecordFault) → i < count →
      entries_end (count - i) workers file at ≡ whole → r ≡ entry_at workers file at → after_one r ≡ whole
  one_passed at r whole more so_far read =
      let one : count - i ≡ suc (count - (i + 1)) = omega arith in
      ap after_one read ∙ sym (ap (λ n. entries_end n workers file at) one) ∙ so_far
