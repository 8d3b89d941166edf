-- One turn of the loop that writes a number: a group is written, and the spelling of the rest is left.
use Rattle.std.proofs.Common.{ℕ, zero, suc, ◌+◌, ◌/◌, ◌%◌, ◌^◌, ◌<◌, ◌≤◌, [], ◌∷◌, refl, arith}
use Rattle.turn_file.specs.Spelling.{spell_in, spell}
use Rattle.turn_file.proofs.Spelled.{limit, limit_more, limit_wide, spell_more}
use Rattle.turn_writer.specs.Page.{Page, page_after}
use Rattle.turn_writer.proofs.Pages.{Fits, Writing, one_more}

-- the spelling of `high` in at most so many groups is still to be written
pub record Left (v : ℕ) (start now : Page) (high : ℕ) : Type 0 where
  pub groups : ℕ
  pub few : high < limit (suc groups)
  pub writing : Writing (spell v) start (spell_in (suc groups) high) now

pub left_all : (v : ℕ) (start : Page) → v < 2 ^ 32 → Fits (spell v) start → Left v start start v
left_all v start small room =
    record { groups = 4; few = omega arith; writing = record { same = refl; room = room } }

module _ {v : ℕ} {start now : Page} {high : ℕ} (l : Left v start now high) where
  pub left_more : 128 ≤ high → Left v start (page_after ((128 + high % 128) ∷ []) now) (high / 128)
  left_more more = behind l.groups l.few l.writing
    where
      behind : (groups : ℕ) → high < limit (suc groups) → Writing (spell v) start (spell_in (suc groups) high) now →
          Left v start (page_after ((128 + high % 128) ∷ []) now) (high / 128)
      behind zero few w = absurd (omega (arith, limit_wide 0 (omega arith)))
      behind (suc groups) few w = record {
        groups = groups;
        few = omega (arith, limit_more (suc groups) (omega arith));
        writing = one_more w _ _ (spell_more (suc groups) high more);
      }
