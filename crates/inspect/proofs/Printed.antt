-- Text that a loop prints item by item.
use Rattle.std.proofs.Common.{◌≡◌, true, ℕ, ◌+◌, ◌<◌, List, [], ◌∷◌, ◌++◌, length, get_or, drop, sym, refl, ap, ◌∙◌, append_assoc, append-nil}
use Rattle.std.specs.declared.fmt.Formatter.{Formatter}
use Rattle.std.specs.Fmt.{IsPlainFormatter, HasWritten}
use Rattle.std.proofs.Output.{writes_in_calls_nil, has_written_append, has_written_of_eq}
use Rattle.std.proofs.lemmas.List.{at_drop_more}

-- from f to g the front of `whole` was printed, and `rest` is what is left of it
pub record Printed {W : Type 0} (took : W → List ℕ → W → Type 0) (f : Formatter W) (whole rest : List ℕ)
    (g : Formatter W) : Type 0 where
  pub front : List ℕ
  pub put : HasWritten took f front g
  pub split : front ++ rest ≡ whole

module _ {W : Type 0} {took : W → List ℕ → W → Type 0} {f : Formatter W} {whole : List ℕ} where
  pub nothing_yet : IsPlainFormatter f → Printed took f whole whole f
  nothing_yet plain =
      record { front = []; put = record { wrote = writes_in_calls_nil took _; plain = plain }; split = refl }

  pub one_more : {rest next : List ℕ} {g h : Formatter W} (item : List ℕ) → Printed took f whole rest g →
      rest ≡ item ++ next → (IsPlainFormatter g → true ≡ true → HasWritten took g item h) →
      Printed took f whole next h
  one_more {rest} {next} {g} {h} item before cut writes = record {
    front = before.front ++ item;
    put = has_written_append took f before.front g item h before.put (writes before.put.plain refl);
    split = append_assoc before.front item next ∙ ap (λ l. before.front ++ l) (sym cut) ∙ before.split;
  }

  pub all : {rest : List ℕ} {g : Formatter W} → Printed took f whole rest g → rest ≡ [] → HasWritten took f whole g
  all {rest} {g} before none =
      has_written_of_eq took f before.front whole g
      (sym (append-nil before.front) ∙ ap (λ l. before.front ++ l) (sym none) ∙ before.split) before.put

  -- one element of a list more: `from` prints the elements from it on, `text` the element, `behind` those behind it
  pub one_element : {X : Type 0} {i : ℕ} {g h : Formatter W} (text : X → List ℕ) (from : List X → List ℕ)
      (behind : X → List X → List ℕ) (xs : List X) (d : X) →
      ((x : X) (ys : List X) → from (x ∷ ys) ≡ text x ++ behind x ys) → i < length xs →
      Printed took f whole (from (drop i xs)) g →
      (IsPlainFormatter g → true ≡ true → HasWritten took g (text (get_or xs i d)) h) →
      Printed took f whole (behind (get_or xs i d) (drop (i + 1) xs)) h
  one_element {X} {i} text from behind xs d steps more before writes =
      one_more (text (get_or xs i d)) before (at_drop_more from xs i d more ∙ steps _ _) writes
