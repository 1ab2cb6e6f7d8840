-- A list text of 65,536 bytes or more is answered just as its first 65,536 bytes are, where right
-- texts are short; so plan texts and costs texts are.
-- Assumes nothing.
use Prim.Native.Nat.{ℕ, zero, suc, ◌+◌, ◌*◌, ◌≤◌, ◌<◌}
use mathlib.Core.Path.{◌≡◌, refl, sym, ◌∙◌}
use mathlib.Core.List.{List, [], ◌∷◌, ◌++◌}
use Rattle.std.specs.Prelude.{Option, None, Some}
use native.Mathlib.Nat.{mul-le-mul_right}
use native.Mathlib.Omega.{arith}
use lib.ListN.{length, take}
use Rattle.text.specs.Bytes.{bytes}
use Rattle.text.proofs.LineText.{most_bytes, line_short}
use Rattle.job.specs.Job.{Job}
use Rattle.lists.specs.CountedList.{ListOutcome, bound_at, entry_in, count_in, read_entries, read_lines, read_list}
use Rattle.lists.specs.PlanText.{plan_key, plan_ranges, read_plan}
use Rattle.lists.specs.CostsText.{costs_key, cost_key, cost_ranges, read_costs}
use Rattle.lists.specs.declared.counted.Ranges.{Ranges}
use Rattle.lists.proofs.ListLaws.{entry_number, count_none, count_told, count_right, count_wrong, line_right, line_wrong}
use Rattle.load.specs.Refusals.{key_for, bound_for}
use Rattle.load.specs.declared.request.Sort.{Sort}
use Rattle.load.specs.declared.request.Sort.TheVariants.{Moves, Steps}
use Rattle.theorems.proofs.Fronts.{front_decides}

-- how many bytes a right line has at the most: it has one number
abbrev most : List ℕ → ℕ
most key = most_bytes key 1

module _ (key : List ℕ) (limit : ℕ) (line : List ℕ) where
  entry_short : (v : ℕ) → entry_in key limit line ≡ Some v → length line ≤ most key
  entry_short v e = line_short key 1 (v ∷ []) line (entry_number key line limit v e).1

  long_none : (o : Option ℕ) → entry_in key limit line ≡ o → most key < length line → o ≡ None
  long_none None e h = refl
  long_none (Some v) e h = absurd (omega (arith, entry_short v e))

-- before the first line; and after it, with the numbers read and how many are due
data Place : Type 0 where
  begun : Place
  within : List ℕ → ℕ → Place

module _ (title key : List ℕ) (r : Ranges) where
  abbrev read : Place → List (List ℕ) → ListOutcome
  read begun ls = read_lines title key r ls
  read (within got due) ls = read_entries key (bound_at r) got due ls

  -- how many bytes may still come
  abbrev ahead : Place → ℕ
  ahead begun = most title + r.most * most key
  ahead (within got due) = due * most key

  long_count : (line : List ℕ) → most title < length line → count_in title r line ≡ None
  long_count line h = count_none title r line (long_none title (suc r.most) line _ refl h)

  long : (p : Place) (line other : List ℕ) (rest more : List (List ℕ)) → ahead p < length line → ahead p < length other
      → read p (line ∷ rest) ≡ read p (other ∷ more)
  unfolding read_entries
  long begun line other rest more h g =
      count_wrong title key r line rest (long_count line (omega arith)) ∙ sym (count_wrong title key r other more (long_count other (omega arith)))
  long (within got zero) line other rest more h g = refl
  long (within got (suc due)) line other rest more h g =
      line_wrong key (bound_at r) got line rest due (long_none key (bound_at r (length got)) line _ refl (omega arith))
      ∙ sym (line_wrong key (bound_at r) got other more due (long_none key (bound_at r (length got)) other _ refl (omega arith)))

  module _ (line : List ℕ) (rest more : List (List ℕ)) where
    abbrev Alike : Place → Type 0
    Alike p = ((q : Place) → ahead q + length line ≤ ahead p → read q rest ≡ read q more) → read p (line ∷ rest) ≡ read p (line ∷ more)

    count_same : (o : Option ℕ) → count_in title r line ≡ o → Alike begun
    count_same None e f = count_wrong title key r line rest e ∙ sym (count_wrong title key r line more e)
    count_same (Some count) e f =
        let n = (count_told title r line count e).1 in
        let few = mul-le-mul_right (most key) (entry_number title line (suc r.most) count n).0 in
        count_right title key r line rest count e
        ∙ f (within [] count) (omega (arith, few, entry_short title (suc r.most) line count n))
        ∙ sym (count_right title key r line more count e)

    entry_same : (got : List ℕ) (due : ℕ) (o : Option ℕ) → entry_in key (bound_at r (length got)) line ≡ o → Alike (within got (suc due))
    entry_same got due None e f = line_wrong key (bound_at r) got line rest due e ∙ sym (line_wrong key (bound_at r) got line more due e)
    entry_same got due (Some v) e f =
        line_right key (bound_at r) got line rest due v e
        ∙ f (within (got ++ (v ∷ [])) due) (omega (arith, entry_short key (bound_at r (length got)) line v e))
        ∙ sym (line_right key (bound_at r) got line more due v e)

    same : (p : Place) → Alike p
    unfolding read_entries
    same begun f = count_same (count_in title r line) refl f
    same (within got zero) f = refl
    same (within got (suc due)) f = entry_same got due (entry_in key (bound_at r (length got)) line) refl f

  pub long_list : (text : List ℕ) → most title + r.most * most key < 65536 → 65536 ≤ length text
      → read_list title key r text ≡ read_list title key r (take 65536 text)
  unfolding read_list
  long_list text k h = front_decides read ahead long (λ p line rest more. same line rest more p) 65536 begun text k h

long_by : (key : List ℕ) (bound : ℕ) (text : List ℕ) → length key ≤ 1 → 65536 ≤ length text → read_plan key bound text ≡ read_plan key bound (take 65536 text)
unfolding bytes
long_by key bound text k h = long_list plan_key key (plan_ranges bound) text (omega arith) h

key_short : (sort : Sort) → length (key_for sort) ≤ 1
unfolding bytes
key_short Moves = omega arith
key_short Steps = omega arith

pub long_plan : (sort : Sort) (j : Job) (text : List ℕ) → 65536 ≤ length text
    → read_plan (key_for sort) (bound_for sort j) text ≡ read_plan (key_for sort) (bound_for sort j) (take 65536 text)
long_plan sort j text h = long_by (key_for sort) (bound_for sort j) text (key_short sort) h

pub long_costs : (text : List ℕ) → 65536 ≤ length text → read_costs text ≡ read_costs (take 65536 text)
unfolding bytes
long_costs text h = long_list costs_key cost_key cost_ranges text (omega arith) h
