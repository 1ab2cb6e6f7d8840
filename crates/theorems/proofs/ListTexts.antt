-- Which texts are read as lists: those of lists within their ranges, as these; so plans and costs.
-- Assumes nothing.
use Prim.Native.Nat.{ℕ, suc, ◌≤◌, ◌<◌}
use mathlib.Core.Path.{◌≡◌, refl, sym, ◌∙◌, ap, subst}
use mathlib.Core.Bool.{true}
use mathlib.Core.List.{List, [], ◌∷◌, ◌++◌, flatten, append_assoc, append-nil}
use mathlib.Core.Logic.{◌↔◌}
use Rattle.std.specs.Prelude.{Some}
use native.Mathlib.Omega.{arith}
use lib.Dec.{eqb}
use lib.ListN.{length, get_or, length-append}
use lib.Seq.{get_or-append_seam}
use borrow.Author.Tests.{lt-ltb, eqb-true}
use Rattle.laws.proofs.Tests.{cond_has}
use Rattle.text.specs.Bytes.{bytes}
use Rattle.text.specs.Lines.{lines}
use Rattle.text.specs.Written.{line_text}
use Rattle.text.proofs.LineText.{line_complete, plain, line_of_lem, line_ends}
use Rattle.limits.specs.Limits.{most_class_cost}
use Rattle.std.specs.Prelude.{Ok}
use Rattle.lists.specs.CountedList.{bound_at, entry_in, read_entries, read_lines, read_list, entry_lines}
use Rattle.lists.specs.PlanText.{plan_key, plan_ranges, read_plan, IsPlanText}
use Rattle.lists.specs.CostsText.{costs_key, cost_key, cost_ranges, read_costs, IsCostsText}
use Rattle.lists.specs.declared.counted.Ranges.{Ranges}
use Rattle.lists.proofs.ListLaws.{count_enough, count_right, line_right}
use Rattle.lists.proofs.ListTold.{Below, IsListText, list_told, plan_bound, plan_told, costs_told}

-- the text of a number is read as it
entry_read : (key : List ℕ) (limit v : ℕ) → v < limit → limit ≤ 65536 → entry_in key limit (line_text key (v ∷ [])) ≡ Some v
unfolding entry_in
entry_read key limit v h g = rw (line_complete key 1 v [] refl (omega arith, tt), lt-ltb v limit h)

module _ (key : List ℕ) (bound : ℕ → ℕ) (plain-key : plain key ≡ true) (small : (i : ℕ) → bound i ≤ 65536) where
  entries_read : (es got : List ℕ) → Below bound (got ++ es) → read_entries key bound got (length es) (lines (flatten (entry_lines key es))) ≡ Ok (got ++ es)
  unfolding read_entries flatten lines
  entries_read [] got b = ap Ok (sym (append-nil got))
  entries_read (v ∷ es) got b =
      let a = append_assoc got (v ∷ []) es in
      let h : v < bound (length got) = rw get_or-append_seam at (b (length got) (simp length-append (omega arith))) in
      ap (read_entries key bound got (suc (length es))) (line_of_lem (line_text key (v ∷ [])) (flatten (entry_lines key es)) (line_ends key v [] plain-key))
      ∙ line_right key bound got _ _ (length es) v (entry_read key (bound (length got)) v h (small (length got)))
      ∙ entries_read es (got ++ (v ∷ [])) (subst (Below bound) (sym a) b)
      ∙ ap Ok a

-- every list within its ranges can be written: title and key have no line feed, and no number is
-- past 65,535
module _ (title key : List ℕ) (r : Ranges) where
  pub record Writable : Type 0 where
    pub its_title : plain title ≡ true
    pub its_key : plain key ≡ true
    pub count : r.most < 65536
    pub first : r.first ≤ 65536
    pub rest : r.rest ≤ 65536

  module _ (w : Writable) where
    bound_small : (i : ℕ) → bound_at r i ≤ 65536
    bound_small i = cond_has (λ q. q ≤ 65536) (eqb i 0) r.first r.rest (λ e. w.first) (λ e. w.rest)

    list_text_read : (text es : List ℕ) → IsListText title key r text es → read_list title key r text ≡ Ok es
    unfolding read_list
    list_text_read text es t =
        let n = entry_read title (suc r.most) (length es) (omega (arith, t.few)) (omega (arith, w.count)) in
        ap (read_list title key r) t.written
        ∙ ap (read_lines title key r) (line_of_lem (line_text title (length es ∷ [])) (flatten (entry_lines key es)) (line_ends title (length es) [] w.its_title))
        ∙ count_right title key r _ _ (length es) (count_enough title r _ (length es) n t.enough)
        ∙ entries_read key (bound_at r) w.its_key bound_small es [] t.each

    pub list_text_iff : (text es : List ℕ) → (read_list title key r text ≡ Ok es) ↔ IsListText title key r text es
    list_text_iff text es = (list_told title key r text es, list_text_read text es)

pub plan_text_iff : (key : List ℕ) (bound : ℕ) (text entries : List ℕ) → plain key ≡ true → bound ≤ 65536
    → (read_plan key bound text ≡ Ok entries) ↔ IsPlanText key bound text entries
unfolding bytes
plan_text_iff key bound text entries p s =
    let w : Writable plan_key key (plan_ranges bound) = record { its_title = refl; its_key = p; count = omega arith; first = s; rest = s } in (
      plan_told key bound text entries,
      λ t. (list_text_iff plan_key key (plan_ranges bound) w text entries).1 (record {
        enough = omega arith;
        few = t.few;
        each = λ i k. omega (arith, t.each i k, plan_bound bound i);
        written = t.written;
      }),
    )

-- costs that are free for class 0 and at most the greatest are below their bounds
costs_below : (costs : List ℕ) → get_or costs 0 0 ≡ 0 → ((class : ℕ) → get_or costs class 0 ≤ most_class_cost) → Below (bound_at cost_ranges) costs
costs_below costs z m i h = cond_has (λ q. get_or costs i 0 < q) (eqb i 0) 1 (suc most_class_cost)
    (λ e. let f : i ≡ 0 = eqb-true i 0 e in rw f (omega (arith, z)))
    (λ e. omega (arith, m i))

pub costs_text_iff : (text costs : List ℕ) → (read_costs text ≡ Ok costs) ↔ IsCostsText text costs
unfolding bytes
costs_text_iff text costs =
    let w : Writable costs_key cost_key cost_ranges =
    record { its_title = refl; its_key = refl; count = omega arith; first = omega arith; rest = omega arith } in (
      costs_told text costs,
      λ c. (list_text_iff costs_key cost_key cost_ranges w text costs).1 (record {
        enough = omega (arith, c.count);
        few = omega (arith, c.count);
        each = costs_below costs c.free c.each;
        written = c.written;
      }),
    )
