use Rattle.std.proofs.Common.{◌≡◌, ℕ, ◌+◌, ◌<◌, ◌≤◌, List, length, get_or, drop, Err, sym, ap, ◌∙◌, add-zero, arith}
use Rattle.std.proofs.lemmas.List.{length-drop, get_or-drop}
use Rattle.std.proofs.lemmas.Result.{err_from_is_err_and}
use Rattle.turn_file.proofs.Groups.{at_first, by_turn, by_end, so_far_more}
use Rattle.turn_file.proofs.Spelled.{read_spelled}
use Rattle.turn_file.proofs.number.read_number.Goals as goal

-- the first of the bytes from a place on, as a byte of the number
next_byte : (file rest : List ℕ) (at index : ℕ) → rest ≡ drop (at + index) file → 1 ≤ length rest →
    (index < length (drop at file)) × (get_or rest 0 0 ≡ get_or (drop at file) index 0)
next_byte file rest at index is some = (
  omega (arith, length-drop at file, length-drop (at + index) file, ap length is),
  rw (is, get_or-drop (at + index) file 0 0, get_or-drop at file index 0, add-zero),
)

no_byte : (file rest : List ℕ) (at index : ℕ) → rest ≡ drop (at + index) file → length rest < 1 →
    length (drop at file) ≤ index
no_byte file rest at index is none = omega (arith, length-drop at file, length-drop (at + index) file, ap length is)

pub loop-index-init : goal.loop-index-init
loop-index-init c = record { so_far = at_first c.args.at _; within = λ some. absurd (omega arith) }

pub returns-in_default-clause-spelled : goal.returns-in_default-clause-spelled
returns-in_default-clause-spelled c =
    let past = no_byte _ _ c.args.at c.loop-index.index c.bytes_from.ensures c.in_default.len_below in
    read_spelled c.args.file.now c.args.at _ (λ i. (c.type_inv.file i).fits)
    (sym (by_end c.loop-index.invariant.so_far past))

pub returns-in_err-group_of-clause-spelled : goal.returns-in_err-group_of-clause-spelled
returns-in_err-group_of-clause-spelled c =
    let next = next_byte _ _ c.args.at c.loop-index.index c.bytes_from.ensures c.in-len1-up.len_at_least in
    let p = err_from_is_err_and c.from_residual.result c.from_residual.ensures.1 in
    let is = rw next.1 at c.in_err-group_of.ensures in
    let turn = by_turn c.loop-index.invariant.so_far _ next.0 is in
    read_spelled c.args.file.now c.args.at _ (λ i. (c.type_inv.file i).fits) (p.1 ∙ ap Err p.2 ∙ sym turn)

pub returns-in-Last-clause-spelled : goal.returns-in-Last-clause-spelled
returns-in-Last-clause-spelled c =
    let next = next_byte _ _ c.args.at c.loop-index.index c.bytes_from.ensures c.in-len1-up.len_at_least in
    let is = rw (c.in-Last.is, next.1) at c.in_ok-group_of.ensures in
    let turn = by_turn c.loop-index.invariant.so_far _ next.0 is in
    rw (c.from.ensures, next.1) (read_spelled c.args.file.now c.args.at _ (λ i. (c.type_inv.file i).fits) (sym turn))

pub loop-index-preserved : goal.loop-index-preserved
loop-index-preserved c =
    let next = next_byte _ _ c.args.at c.loop-index.index c.bytes_from.ensures c.in-len1-up.len_at_least in
    let is = rw (c.in-More.is, next.1) at c.in_ok-group_of.ensures in
    let place = c.args.at + c.loop-index.index in
    let byte = rw (← get_or-drop c.args.at c.args.file.now c.loop-index.index 0) at (c.type_inv.file place).fits in
    record {
      so_far = rw (c.from-in-More.ensures, next.1) (so_far_more c.loop-index.invariant.so_far byte next.0 is);
      within = λ some. omega (arith, length-drop c.args.at c.args.file.now, next.0);
    }
