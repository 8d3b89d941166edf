-- What a reader's next step says of the file.
use Rattle.std.proofs.Common.{◌≡◌, ℕ, Bool, true, false, cond, ltb, List, length, Some, None, Ok, Err, Result, ap, subst, arith}
use Rattle.turn_file.specs.declared.fault.FileFault.{FileFault}
use Rattle.turn_file.specs.declared.fault.RecordFault.{RecordFault}
use Rattle.turn_file.specs.declared.step.Stage.{Stage}
use Rattle.turn_file.specs.declared.step.Stage.TheVariants as stage
use Rattle.turn_file.specs.Record.{levels_at, level_at, script_at, schedule_at}
use Rattle.turn_file.specs.Reading.{Stepped, in_order, levels_step, level_step, script_step, schedule_step, next_step}
use Rattle.turn_file.proofs.Fields.{bind_ok}
use Rattle.turn_file.proofs.Within.{Takes, levels_take, level_takes, script_takes, schedule_takes}

-- a record that was handed out was read
pub in_order_ok : (r : Result Stepped RecordFault) (s : Stepped) → in_order r ≡ Ok (Some s) → r ≡ Ok s
in_order_ok (Ok t) s e = let q : t ≡ s = cc in ap Ok q
in_order_ok (Err f) s e = cc

pub no_step : (t : Bool) (f : FileFault) (s : Stepped) → cond t (Err f) (Ok None) ≡ Ok (Some s) → ⊥
no_step true f s e = cc
no_step false f s e = cc

-- what holds of the step that was made holds of the step that was handed out
pub of_step : (P : Stepped → Type 0) (a s : Stepped) → ◌≡◌ {A = Result Stepped RecordFault} (Ok a) (Ok s) → P a → P s
of_step P a s e h = let q : a ≡ s = cc in subst P q h

-- each record takes a byte at least
pub next_takes : (file : List ℕ) (at : ℕ) (g : Stage) (s : Stepped) → next_step file at g ≡ Ok (Some s) →
    Takes at s.next file
next_takes file at stage.Levels s e =
    let b = bind_ok (levels_at file at) _ s (in_order_ok (levels_step file at) s e) in
    of_step (λ t. Takes at t.next file) _ s b.2 (levels_take file at b.0 b.1)
next_takes file at (stage.Level rank count parties) s e =
    let b = bind_ok (level_at rank parties file at) _ s (in_order_ok (level_step rank count parties file at) s e) in
    of_step (λ t. Takes at t.next file) _ s b.2 (level_takes rank parties file at b.0 b.1)
next_takes file at (stage.Script worker workers) s e =
    let b = bind_ok (script_at file at) _ s (in_order_ok (script_step worker workers file at) s e) in
    of_step (λ t. Takes at t.next file) _ s b.2 (script_takes file at b.0 b.1)
next_takes file at (stage.Schedule workers) s e =
    let b = bind_ok (schedule_at workers file at) _ s (in_order_ok (schedule_step workers file at) s e) in
    let t = schedule_takes workers file at b.0 b.1 in
    of_step (λ u. Takes at u.next file) _ s b.2 (omega arith, t.2)
next_takes file at stage.End s e = absurd (no_step (ltb at (length file)) _ s e)
