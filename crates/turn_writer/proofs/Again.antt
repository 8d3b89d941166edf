-- Records in file order, entered into a blank plan, are the records of that plan.
use Rattle.std.proofs.Common.{◌≡◌, ℕ, ◌≤◌, List, [], ◌∷◌, ◌++◌, length, take, replicate, fold, sym, refl, ap, ◌∙◌, arith}
use Rattle.std.proofs.lemmas.List.Sums.{fold-append}
use Rattle.turn_file.specs.declared.plan.Level.{Level}
use Rattle.turn_file.specs.declared.plan.Script.{Script}
use Rattle.turn_file.specs.declared.step.Stage.TheVariants as stage
use Rattle.turn_file.specs.Order.{InOrder}
use Rattle.turn_file.specs.Plan.{PlanNumbers, lanes_below, with_item, blank_plan, no_level, no_script, used_levels, workers_of, used_scripts}
use Rattle.turn_file.specs.Reading.{Item, levels, schedule}
use Rattle.turn_writer.specs.Records.{script_records, records_from, records_of}
use Rattle.turn_writer.proofs.Rows.{put_row, take_whole_row, used_row, length_used_row, records_used_row, workers_used_row, levels_entered, scripts_entered}
use Rattle.turn_writer.proofs.Sections.{in_parts}

-- a blank plan that these parts are entered into
abbrev entered : ℕ → List Level → List Script → List ℕ → PlanNumbers
entered count ls ss es =
    record {
      count = count;
      levels = put_row 4 (replicate 4 no_level) 0 (used_row 0 ls);
      scripts = put_row 64 (replicate 64 no_script) 0 ss;
      entries = es;
    }

records_entered : (count : ℕ) (ls : List Level) (ss : List Script) (es : List ℕ) →
    fold with_item blank_plan (records_from count ls ss es) ≡ entered count ls ss es
records_entered count ls ss es = simp (fold-append, levels_entered, scripts_entered)

module _ (count : ℕ) (ls : List Level) (ss : List Script) (es : List ℕ) where
  -- what is used of it
  levels_used : length ls ≡ count → count ≤ 4 → used_levels (entered count ls ss es) ≡ used_row 0 ls
  levels_used counted four =
      ap (λ n. take n (entered count ls ss es).levels) (sym (length_used_row 0 ls ∙ counted))
      ∙ take_whole_row 4 (replicate 4 no_level) (used_row 0 ls) refl (omega (arith, length_used_row 0 ls))

  scripts_used : length ss ≡ workers_of (entered count ls ss es) → length ss ≤ 64 →
      used_scripts (entered count ls ss es) ≡ ss
  scripts_used scripted few =
      ap (λ n. take n (entered count ls ss es).scripts) (sym scripted)
      ∙ take_whole_row 64 (replicate 64 no_script) ss refl few

  -- its records
  entered_again : length ls ≡ count → count ≤ 4 → length ss ≡ fold lanes_below 1 ls → length ss ≤ 64 →
      records_of (entered count ls ss es) ≡ records_from count ls ss es
  entered_again counted four scripted few =
      let row = levels_used counted four in
      let workers = ap (fold lanes_below 1) row ∙ workers_used_row 0 1 ls in
      ap (λ r. records_from count r (used_scripts (entered count ls ss es)) es) row
      ∙ ap (λ r. records_from count (used_row 0 ls) r es) (scripts_used (scripted ∙ sym workers) few)
      ∙ ap (λ r. levels count ∷ (r ++ (script_records 0 ss ++ (schedule es ∷ [])))) (records_used_row 0 ls)

-- records in file order say a plan that has these records
pub records_again : (items : List Item) → InOrder stage.Levels items stage.End →
    records_of (fold with_item blank_plan items) ≡ items
records_again items order =
    let p = in_parts items order in
    ap (λ xs. records_of (fold with_item blank_plan xs)) p.are
    ∙ ap records_of (records_entered p.count p.ls p.ss p.es)
    ∙ entered_again p.count p.ls p.ss p.es p.counted p.four p.scripted p.sixty_four
    ∙ sym p.are
