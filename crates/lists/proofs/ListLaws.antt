-- Laws of a counted list that is read line by line.
-- Assumes nothing.
use Rattle.std.proofs.Common.{◌≡◌, ℕ, suc, ◌+◌, ◌-◌, ◌≤◌, ◌<◌, Bool, true, false, cond, Option, None, Some, ok_or, Result, Ok, Err, List, [], ◌∷◌, ◌++◌, length, get_or, take, drop, refl, sym, ◌∙◌, ap, arith}
use native.Mathlib.Decide.{dec_lt}
use Rattle.std.specs.Bool.{then_some}
use lib.Dec.{ltb, leb}
use lib.ListN.{drop_of_length-le, length-append, length-drop}
use lib.Seq.{take-nil}
use borrow.Author.Tests.{ltb-true, le-leb, leb-true}
use Rattle.std.proofs.lemmas.Option.{none-some}
use Rattle.laws.proofs.Tests.{cond_some}
use Rattle.text.specs.Lines.{lines, line_length, has_key, value_of}
use Rattle.text.specs.Numbers.{numbers}
use Rattle.text.specs.Progress.{answered}
use Rattle.text.proofs.LineLaws.{lines_first, lines_at, lines_past, length_le}
use Rattle.text.proofs.LineText.{line_sound}
use Rattle.lists.specs.CountedList.{ListOutcome, bound_at, below, entry_in, at_least, count_in, read_entries, read_lines, read_list}
use Rattle.lists.specs.declared.counted.Ranges.{Ranges}

some_by : (b : Bool) (x : ℕ) → then_some b x ≡ cond b (Some x) None
some_by true x = refl
some_by false x = refl

-- the line at fault, where there is no number
pub err_line : {A : Type 0} (o : Option A) (x y : ℕ) → ◌≡◌ {A = Result A ℕ} (Err x) (ok_or o y) → o ≡ None → x ≡ y
err_line None x y e f = cc
err_line (Some a) x y e f = absurd (none-some a (sym f))

-- the one number of a line, as the fill answered
module _ (key line value out : List ℕ) (limit : ℕ) (found : Bool) (after : value ≡ value_of key line) (read : answered found out ≡ numbers 1 value) where
  answer : (b : Bool) → found ≡ b → entry_in key limit line ≡ below limit (answered b out)
  unfolding entry_in
  answer b e = ap (below limit) (ap (numbers 1) (sym after) ∙ sym read ∙ ap (λ q. answered q out) e)

  pub entry_found : found ≡ true → then_some (ltb (get_or out 0 0) limit) (get_or out 0 0) ≡ entry_in key limit line
  entry_found e = some_by (ltb (get_or out 0 0) limit) (get_or out 0 0) ∙ sym (answer true e)

  pub entry_none : found ≡ false → None ≡ entry_in key limit line
  entry_none e = sym (answer false e)

-- a line has one number, below the limit
module _ (key line : List ℕ) (limit v : ℕ) where
  one_number : (o : Option (List ℕ)) → numbers 1 (value_of key line) ≡ o → below limit o ≡ Some v → (v < limit) × (o ≡ Some (v ∷ []))
  one_number None e h = let z : ◌≡◌ {A = ℕ} 0 1 = cc in absurd (omega arith)
  one_number (Some []) e h = absurd (omega (arith, (line_sound key 1 [] line e).0.count))
  one_number (Some (a ∷ [])) e h =
      let g = cond_some (ltb a limit) h in
      let f : a ≡ v = cc g.1 in (omega (arith, ltb-true a limit g.0), rw f)
  one_number (Some (a ∷ b ∷ l)) e h = absurd (omega (arith, (line_sound key 1 (a ∷ b ∷ l) line e).0.count))

  pub entry_number : entry_in key limit line ≡ Some v → (v < limit) × (numbers 1 (value_of key line) ≡ Some (v ∷ []))
  unfolding entry_in
  entry_number e = one_number (numbers 1 (value_of key line)) refl e

-- no bytes are no entry
entry_empty : (key : List ℕ) (limit : ℕ) → entry_in key limit [] ≡ None
unfolding entry_in value_of has_key numbers
entry_empty [] limit = refl
entry_empty (k ∷ ks) limit = refl

-- a limit that is another
pub bound_is : (key line : List ℕ) {a b : ℕ} {o : Option ℕ} → a ≡ b → entry_in key a line ≡ o → entry_in key b line ≡ o
bound_is key line e h = ap (λ k. entry_in key k line) (sym e) ∙ h

-- how many numbers there are, as the first line says: the number of the line, where it is enough
module _ (title : List ℕ) (r : Ranges) (line : List ℕ) where
  abbrev count_of : Option ℕ
  count_of = entry_in title (suc r.most) line

  pub count_none : count_of ≡ None → count_in title r line ≡ None
  unfolding count_in
  count_none e = ap (at_least r.least) e

  module _ (n : ℕ) where
    pub count_read : count_of ≡ Some n → then_some (leb r.least n) n ≡ count_in title r line
    unfolding count_in
    count_read e = some_by (leb r.least n) n ∙ sym (ap (at_least r.least) e)

    pub count_enough : count_of ≡ Some n → r.least ≤ n → count_in title r line ≡ Some n
    count_enough e h = sym (count_read e) ∙ rw (le-leb r.least n h)

    at_least_lem : (o : Option ℕ) → at_least r.least o ≡ Some n → (r.least ≤ n) × (o ≡ Some n)
    at_least_lem None h = let z : ◌≡◌ {A = ℕ} 0 1 = cc in absurd (omega arith)
    at_least_lem (Some k) h =
        let g = cond_some (leb r.least k) h in
        let f : k ≡ n = cc g.1 in (omega (arith, leb-true r.least k g.0), g.1)

    pub count_told : count_in title r line ≡ Some n → (r.least ≤ n) × (count_of ≡ Some n)
    unfolding count_in
    count_told e = at_least_lem count_of e

    pub count_few : count_in title r line ≡ Some n → n ≤ r.most
    count_few e = omega (arith, (entry_number title line (suc r.most) n (count_told e).1).0)

-- the first line, which says how many numbers there are
module _ (title key : List ℕ) (r : Ranges) (line : List ℕ) (rest : List (List ℕ)) where
  pub count_right : (count : ℕ) → count_in title r line ≡ Some count → read_lines title key r (line ∷ rest) ≡ read_entries key (bound_at r) [] count rest
  unfolding read_lines
  count_right count e = rw (e, read_lines)

  pub count_wrong : count_in title r line ≡ None → read_lines title key r (line ∷ rest) ≡ Err 1
  unfolding read_lines
  count_wrong e = rw (e, read_lines)

-- one line more, as numbers are due or not
module _ (key : List ℕ) (bound : ℕ → ℕ) (got line : List ℕ) (rest : List (List ℕ)) where
  pub line_right : (due v : ℕ) → entry_in key (bound (length got)) line ≡ Some v
      → read_entries key bound got (suc due) (line ∷ rest) ≡ read_entries key bound (got ++ (v ∷ [])) due rest
  unfolding read_entries
  line_right due v e = rw (e, read_entries)

  pub line_wrong : (due : ℕ) → entry_in key (bound (length got)) line ≡ None → read_entries key bound got (suc due) (line ∷ rest) ≡ Err (length got + 2)
  unfolding read_entries
  line_wrong due e = rw (e, read_entries)

-- n of the numbers were read, and the text goes on at place i
pub record SoFar (key : List ℕ) (bound : ℕ → ℕ) (o : ListOutcome) (text got : List ℕ) (count n i : ℕ) : Type 0 where
  pub many : length got ≡ n
  pub within : i ≤ length text
  pub goes : o ≡ read_entries key bound got (count - n) (lines (drop i text))

module _ {key : List ℕ} {bound : ℕ → ℕ} {o : ListOutcome} {text got : List ℕ} {count n i : ℕ} (p : SoFar key bound o text got count n i) where
  abbrev from : ℕ → List (List ℕ) → ListOutcome
  from due ls = read_entries key bound got due ls

  abbrev wrong : ℕ → ListOutcome
  wrong line = Err line

  none_due : count ≤ n → o ≡ from 0 (lines (drop i text))
  none_due h = let d : count - n ≡ 0 = omega arith in p.goes ∙ ap (λ k. from k (lines (drop i text))) d

  some_due : n < count → (ls : List (List ℕ)) → lines (drop i text) ≡ ls → o ≡ from (suc (count - (n + 1))) ls
  some_due h ls e = let d : count - n ≡ suc (count - (n + 1)) = omega arith in p.goes ∙ ap (from (count - n)) e ∙ ap (λ k. from k ls) d

  -- its first line, which is empty where there are no more, ends at e
  module _ {e : ℕ} (line-end : e ≡ i + line_length (drop i text)) where
    abbrev line : List ℕ
    line = take (e - i) (drop i text)

    pub line_fits : e ≤ length text
    line_fits = omega (arith, p.within, line-end, length_le (drop i text), length-drop i text)

    missing : length text ≤ i → entry_in key (bound n) line ≡ None
    missing h = rw (drop_of_length-le text h, take-nil {A = ℕ} (e - i)) (entry_empty key (bound n))

    pub entry_more : (v : ℕ) → n < count → entry_in key (bound n) line ≡ Some v → SoFar key bound o text (got ++ (v ∷ [])) count (n + 1) e
    entry_more v h g = record {
      many = length-append got (v ∷ []) ∙ ap (λ k. k + 1) p.many;
      within = line_fits;
      goes = elim (dec_lt i (length text)) [
        | yes w ↦ some_due h _ (lines_at text i e w line-end)
            ∙ line_right key bound got line _ (count - (n + 1)) v (bound_is key line (ap bound (sym p.many)) g)
        | no w ↦ absurd (none-some v (sym (missing (omega arith)) ∙ g))
      ];
    }

    pub entry_wrong : n < count → entry_in key (bound n) line ≡ None → o ≡ Err (n + 2)
    unfolding read_entries
    entry_wrong h g = elim (dec_lt i (length text)) [
      | yes w ↦ some_due h _ (lines_at text i e w line-end)
          ∙ line_wrong key bound got line _ (count - (n + 1)) (bound_is key line (ap bound (sym p.many)) g) ∙ ap (λ k. wrong (k + 2)) p.many
      | no w ↦ some_due h [] (lines_past text i (omega arith)) ∙ ap (λ k. wrong (k + 2)) p.many
    ]

  pub entry_extra : count ≡ n → i < length text → o ≡ Err (count + 2)
  unfolding read_entries
  entry_extra e h =
      none_due (omega arith) ∙ ap (from 0) (lines_at text i _ h refl) ∙ ap (λ k. wrong (k + 2)) (p.many ∙ sym e)

  pub entries_all : count ≤ n → length text ≤ i → o ≡ Ok got
  unfolding read_entries
  entries_all h g = none_due h ∙ ap (from 0) (lines_past text i g)

-- a text's first line, which ends at e
module _ (title key : List ℕ) (r : Ranges) (e : ℕ) (text : List ℕ) (ends : e ≡ line_length text) where
  abbrev first : List ℕ
  first = take e text

  no_line : length text ≤ 0 → count_in title r first ≡ None
  no_line h =
      let empty : first ≡ [] = ap (take e) (drop_of_length-le text h) ∙ take-nil {A = ℕ} e in
      ap (count_in title r) empty ∙ count_none title r [] (entry_empty title (suc r.most))

  begins : 0 < length text → lines text ≡ first ∷ lines (drop e text)
  begins h = rw ends (lines_first text h)

  pub first_right : {o : ListOutcome} (count : ℕ) → count_in title r first ≡ Some count → o ≡ read_entries key (bound_at r) [] count (lines (drop e text))
      → o ≡ read_list title key r text
  unfolding read_list
  first_right count h g = elim (dec_lt 0 (length text)) [
    | yes w ↦ g ∙ sym (ap (read_lines title key r) (begins w) ∙ count_right title key r _ _ count h)
    | no w ↦ absurd (none-some count (sym (no_line (omega arith)) ∙ h))
  ]

  pub first_wrong : count_in title r first ≡ None → Err 1 ≡ read_list title key r text
  unfolding read_list read_lines
  first_wrong h = elim (dec_lt 0 (length text)) [
    | yes w ↦ sym (ap (read_lines title key r) (begins w) ∙ count_wrong title key r _ _ h)
    | no w ↦ sym (ap (read_lines title key r) (lines_past text 0 (omega arith)))
  ]
