-- An output that is written from the front on.
use Rattle.std.specs.Prelude.{◌≡◌, ℕ, ◌≤◌, List, [], ◌++◌, length, take, drop}
use Rattle.std.specs.Borrow.{GName, MutBor}
use Rattle.turn_writer.specs.declared.pen.Pen.{Pen}

-- which output it is, what is written of it, and what is not
pub record Page : Type 0 where
  pub output : GName
  pub front : List ℕ
  pub rest : List ℕ

abbrev pub page : Pen → Page
page p = record { output = p.out.ghost_name; front = take p.at p.out.now; rest = drop p.at p.out.now }

-- nothing is written yet
abbrev pub blank_page : MutBor (List ℕ) → Page
blank_page out = record { output = out.ghost_name; front = []; rest = out.now }

-- there is space for these bytes
abbrev pub HasRoom : List ℕ → Pen → Type 0
HasRoom bytes pen = length bytes ≤ length (page pen).rest

-- once these bytes are written too
abbrev pub page_after : List ℕ → Page → Page
page_after bytes p = record { output = p.output; front = p.front ++ bytes; rest = drop (length bytes) p.rest }

-- a pen that wrote these bytes, and no others
abbrev pub Wrote : List ℕ → Pen → Pen → Type 0
Wrote bytes before after = page after ≡ page_after bytes (page before)
