-- Bytes that are written one behind the other.
use Rattle.std.proofs.Common.{◌≡◌, ℕ, ◌≤◌, List, ◌++◌, length, sym, ap, ◌∙◌, arith, length-append, length-drop, append_assoc}
use Rattle.std.proofs.lemmas.List.{drop-drop}
use Rattle.turn_writer.specs.Page.{Page, page_after}

-- there is space for these bytes
abbrev pub Fits : List ℕ → Page → Type 0
Fits bytes p = length bytes ≤ length p.rest

-- what is written one behind the other is written together
page_after_both : (xs ys : List ℕ) (p : Page) → page_after ys (page_after xs p) ≡ page_after (xs ++ ys) p
page_after_both xs ys p = simp (append_assoc, drop-drop, length-append)

-- there is space for the second behind the first
room_second : (xs ys : List ℕ) (p : Page) → Fits (xs ++ ys) p → Fits ys (page_after xs p)
room_second xs ys p room = omega (arith, room, length-append {A = ℕ}, length-drop {A = ℕ})

-- of `whole`, which is to be written on the page `start`, `left` is still to be written
pub record Writing (whole : List ℕ) (start : Page) (left : List ℕ) (now : Page) : Type 0 where
  pub same : page_after left now ≡ page_after whole start
  pub room : Fits left now

pub one_more : {whole : List ℕ} {start : Page} {rest : List ℕ} {now : Page} (w : Writing whole start rest now)
    (item left : List ℕ) → rest ≡ item ++ left → Writing whole start left (page_after item now)
one_more {now = now} w item left cut = record {
  same = page_after_both item left now ∙ ap (λ bytes. page_after bytes now) (sym cut) ∙ w.same;
  room = room_second item left now (rw cut at w.room);
}
