-- The lines of a schedule, which have 32 entries each but the last.
use Rattle.std.proofs.Common.{◌≡◌, ℕ, zero, suc, ◌<◌, ◌≤◌, min, List, [], ◌∷◌, ◌++◌, length, take, drop, codes, sym, refl, ap, ◌∙◌, arith, length-append}
use Rattle.std.proofs.lemmas.List.{take_min, drop_min, take_at, drop_at}
use Rattle.inspect.specs.Text.{schedule_text, entry_lines, schedule_lines}

-- a front of 32 entries, or of all
cut_at : (es line next : List ℕ) → es ≡ line ++ next → length line ≡ min 32 (length es) → (take 32 es ≡ line)
    × (drop 32 es ≡ next)
cut_at es line next cut long = (
  sym (take_min 32 es) ∙ ap (take (min 32 (length es))) cut ∙ take_at line next _ long,
  sym (drop_min 32 es) ∙ ap (drop (min 32 (length es))) cut ∙ drop_at line next _ long,
)

pub next_line : (most : ℕ) (es line next : List ℕ) → 0 < length es → length es ≤ most → es ≡ line ++ next →
    length line ≡ min 32 (length es) → (more : ℕ) × (length next ≤ more)
    × (entry_lines most es ≡ (schedule_text line ++ codes "\n") ++ entry_lines more next)
next_line zero es line next some few cut long = absurd (omega arith)
next_line (suc more) [] line next some few cut long = absurd (omega arith)
next_line (suc more) (e ∷ es) line next some few cut long =
    let parts = ap length cut ∙ length-append line next in
    let at = cut_at (e ∷ es) line next cut long in
    (more, omega arith, λ i. (schedule_text (at.0 i) ++ codes "\n") ++ entry_lines more (at.1 i))

pub no_line : (most : ℕ) (es : List ℕ) → length es ≡ 0 → entry_lines most es ≡ []
no_line zero es none = refl
no_line (suc more) [] none = refl
no_line (suc more) (e ∷ es) none = absurd (omega arith)

pub with_entries : (es : List ℕ) → 0 < length es → entry_lines (length es) es ≡ schedule_lines es
with_entries [] some = absurd (omega arith)
with_entries (e ∷ es) some = refl
