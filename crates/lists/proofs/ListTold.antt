-- What is read as a list is the text of a list within its ranges; so it is of plans and of costs.
-- Assumes nothing.
use Rattle.std.proofs.Common.{◌≡◌, ℕ, zero, suc, ◌+◌, ◌≤◌, ◌<◌, Option, None, Some, Result, Ok, Err, IfOk, List, [], ◌∷◌, ◌++◌, length, get_or, refl, sym, ◌∙◌, ap, subst, append_assoc, append-nil, arith}
use Rattle.arrayvec.specs.ArrayVec.{ArrayVec, array_vec_len}
use Rattle.lists.specs.CountedList.{ListOutcome}
use Rattle.lists.specs.Listed.{listed_as}
use mathlib.Core.List.{map-append, flatten}
use native.Mathlib.Decide.{dec_lt}
use lib.Dec.{eqb}
use lib.ListN.{length-append, get_or-eq_default}
use Rattle.laws.proofs.Lists.{every_more}
use Rattle.laws.proofs.Tests.{cond_has}
use Rattle.limits.specs.Limits.{most_class_cost}
use Rattle.text.specs.Lines.{lines}
use Rattle.text.specs.Written.{line_text}
use Rattle.text.proofs.LineLaws.{flatten_lines}
use Rattle.text.proofs.LineText.{line_sound}
use Rattle.lists.specs.CountedList.{bound_at, entry_in, count_in, read_entries, read_lines, read_list, entry_lines, list_text}
use Rattle.lists.specs.PlanText.{plan_key, plan_ranges, read_plan, IsPlanText}
use Rattle.lists.specs.CostsText.{costs_key, cost_key, cost_ranges, read_costs, IsCostsText}
use Rattle.lists.specs.declared.counted.Ranges.{Ranges}
use Rattle.lists.proofs.ListLaws.{entry_number, count_told, count_right, count_wrong, line_right, line_wrong}

not_listed : {A : Type 0} (line : ℕ) (es : List ℕ) → ◌≡◌ {A = ListOutcome} (Err line) (Ok es) → A
not_listed line es e = let z : ◌≡◌ {A = ℕ} 0 1 = cc in absurd (omega arith)

-- a line that is read as a number is its text
entry_text : (key line : List ℕ) (limit v : ℕ) → entry_in key limit line ≡ Some v → line ≡ line_text key (v ∷ [])
entry_text key line limit v e = (line_sound key 1 (v ∷ []) line (entry_number key line limit v e).1).1

-- each number is below its bound
abbrev pub Below : (ℕ → ℕ) → List ℕ → Type 0
Below bound es = (i : ℕ) → i < length es → get_or es i 0 < bound i

-- a text is just that of a list within these ranges
pub record IsListText (title key : List ℕ) (r : Ranges) (text es : List ℕ) : Type 0 where
  pub enough : r.least ≤ length es
  pub few : length es ≤ r.most
  pub each : Below (bound_at r) es
  pub written : text ≡ list_text title key es

module _ (key : List ℕ) (bound : ℕ → ℕ) (es : List ℕ) where
  -- what was read before the lines, and the lines, are all of the numbers
  record Whole (got : List ℕ) (due : ℕ) (ls : List (List ℕ)) : Type 0 where
    count : length got + due ≡ length es
    lines : entry_lines key got ++ ls ≡ entry_lines key es
    below : Below bound es

  abbrev Reads : List ℕ → ℕ → List (List ℕ) → Type 0
  Reads got due ls = Below bound got → read_entries key bound got due ls ≡ Ok es → Whole got due ls

  whole_by : (got : List ℕ) (due : ℕ) (line : List ℕ) (ls : List (List ℕ)) (o : Option ℕ) → entry_in key (bound (length got)) line ≡ o
      → ((v : ℕ) → Reads (got ++ (v ∷ [])) due ls)
      → Reads got (suc due) (line ∷ ls)
  whole_by got due line ls None h f b e = not_listed _ es (sym (line_wrong key bound got line ls due h) ∙ e)
  whole_by got due line ls (Some v) h f b e =
      let n = (entry_number key line (bound (length got)) v h).0 in
      let w = f v (every_more 0 (λ i x. x < bound i) got v b n) (sym (line_right key bound got line ls due v h) ∙ e) in
      record {
        count = omega (arith, w.count, length-append got (v ∷ []));
        lines = ap (λ l. entry_lines key got ++ (l ∷ ls)) (entry_text key line (bound (length got)) v h)
            ∙ sym (append_assoc (entry_lines key got) (line_text key (v ∷ []) ∷ []) ls)
            ∙ ap (λ q. q ++ ls) (sym (map-append (λ x. line_text key (x ∷ [])) got (v ∷ []))) ∙ w.lines;
        below = w.below;
      }

  whole : (ls : List (List ℕ)) (due : ℕ) (got : List ℕ) → Reads got due ls
  unfolding read_entries
  whole [] zero got b e =
      let g : got ≡ es = cc in
      record { count = omega (arith, ap length g); lines = append-nil (entry_lines key got) ∙ ap (λ q. entry_lines key q) g; below = rw g at b }
  whole [] (suc due) got b e = not_listed _ es e
  whole (line ∷ ls) zero got b e = not_listed _ es e
  whole (line ∷ ls) (suc due) got b e = whole_by got due line ls (entry_in key (bound (length got)) line) refl (λ v. whole ls due (got ++ (v ∷ []))) b e

module _ (title key : List ℕ) (r : Ranges) (es : List ℕ) where
  told_by : (line : List ℕ) (ls : List (List ℕ)) (o : Option ℕ) → count_in title r line ≡ o → read_lines title key r (line ∷ ls) ≡ Ok es
      → IsListText title key r (flatten (line ∷ ls)) es
  unfolding flatten
  told_by line ls None h e = not_listed 1 es (sym (count_wrong title key r line ls h) ∙ e)
  told_by line ls (Some count) h e =
      let c = count_told title r line count h in
      let w = whole key (bound_at r) es ls count [] (λ i g. absurd (omega arith)) (sym (count_right title key r line ls count h) ∙ e) in
      let n : length es ≡ count = omega (arith, w.count) in
      record {
        enough = omega (arith, c.0);
        few = omega (arith, (entry_number title line (suc r.most) count c.1).0);
        each = w.below;
        written = rw (entry_text title line (suc r.most) count c.1, n, ← w.lines);
      }

  told : (ls : List (List ℕ)) → read_lines title key r ls ≡ Ok es → IsListText title key r (flatten ls) es
  unfolding read_lines
  told [] e = not_listed 1 es e
  told (line ∷ ls) e = told_by line ls (count_in title r line) refl e

pub list_told : (title key : List ℕ) (r : Ranges) (text es : List ℕ) → read_list title key r text ≡ Ok es → IsListText title key r text es
unfolding read_list
list_told title key r text es e = subst (λ t. IsListText title key r t es) (flatten_lines text) (told title key r es (lines text) e)

-- as many numbers as there may be
pub list_few : (title key : List ℕ) (r : Ranges) (text : List ℕ) (a : Result (Unit {0}) ℕ) (list : ArrayVec ℕ) → listed_as a list ≡ read_list title key r text
    → IfOk a (λ read. array_vec_len list ≤ r.most)
list_few title key r text (Ok read) list e = (list_told title key r text list.items (sym e)).few
list_few title key r text (Err line) list e = tt

-- both bounds of a plan are one
pub plan_bound : (bound i : ℕ) → bound_at (plan_ranges bound) i ≡ bound
plan_bound bound i = cond_has (λ q. q ≡ bound) (eqb i 0) bound bound (λ e. refl) (λ e. refl)

pub plan_told : (key : List ℕ) (bound : ℕ) (text entries : List ℕ) → read_plan key bound text ≡ Ok entries → IsPlanText key bound text entries
plan_told key bound text entries e =
    let t = list_told plan_key key (plan_ranges bound) text entries e in
    record { few = t.few; each = λ i h. omega (arith, t.each i h, plan_bound bound i); written = t.written }

-- no bound of costs is past that of the greatest
cost_bound : (class : ℕ) → bound_at cost_ranges class ≤ suc most_class_cost
cost_bound class = cond_has (λ q. q ≤ suc most_class_cost) (eqb class 0) 1 (suc most_class_cost) (λ e. omega arith) (λ e. omega arith)

pub costs_told : (text costs : List ℕ) → read_costs text ≡ Ok costs → IsCostsText text costs
costs_told text costs e =
    let t = list_told costs_key cost_key cost_ranges text costs e in
    record {
      count = omega (arith, t.enough, t.few);
      free = omega (arith, t.each 0 (omega (arith, t.enough)));
      each = λ class. elim (dec_lt class (length costs)) [
        | yes h ↦ omega (arith, t.each class h, cost_bound class)
        | no h ↦ omega (arith, get_or-eq_default costs 0 {n = class} (omega arith))
      ];
      written = t.written;
    }
