-- Laws of the lines of a text and of a line's key.
-- Assumes nothing.
use Rattle.std.proofs.Common.{◌≡◌, ℕ, zero, suc, ◌+◌, ◌-◌, ◌≤◌, ◌<◌, min, Bool, true, false, cond, ◌&&◌, Some, None, List, [], ◌∷◌, length, get_or, take, drop, refl, sym, ◌∙◌, ap, arith}
use mathlib.Core.List.{flatten}
use native.Mathlib.Nat.{not-suc-le-zero}
use lib.Dec.{eqb, ltb}
use lib.ListN.{drop_of_length-le, length-drop}
use lib.Seq.{drop-cons, drop-drop}
use borrow.Author.Tests.{eqb-true, ltb-true}
use Rattle.std.proofs.lemmas.Bool.{ltb-false}
use Rattle.std.specs.List.{position, position_or_len}
use Rattle.std.specs.Cmp.Lexicographic.{pointwise}
use Rattle.laws.proofs.Tests.{cond_some}
use Rattle.text.specs.Lines.{line_length, lines, onto, has_key}

-- the first line ends with the first line feed, or with the text
length_by : (b : ℕ) (t : List ℕ) (z : Bool) → eqb b 10 ≡ z → line_length t ≡ min (position_or_len (λ x. eqb x 10) t + 1) (length t)
    → line_length (b ∷ t) ≡ min (position_or_len (λ x. eqb x 10) (b ∷ t) + 1) (suc (length t))
unfolding line_length
length_by b t true e h = rw e (omega arith)
length_by b t false e h = rw e (omega arith)

length_is : (s : List ℕ) → line_length s ≡ min (position_or_len (λ x. eqb x 10) s + 1) (length s)
length_is [] = unfold line_length in refl
length_is (b ∷ t) = length_by b t (eqb b 10) refl (length_is t)

module _ (s : List ℕ) where
  abbrev before : ℕ
  before = position_or_len (λ x. eqb x 10) s

  pub length_to_feed : (n : ℕ) → Some n ≡ position (λ x. eqb x 10) s → n + 1 ≡ line_length s
  length_to_feed n e =
      let h = cond_some (ltb before (length s)) (sym e) in
      let f : before ≡ n = cc h.1 in omega (arith, length_is s, ltb-true before (length s) h.0)

  to_end : (b : Bool) → ltb before (length s) ≡ b → None ≡ cond b (Some before) None → length s ≡ line_length s
  to_end true h e = let z : ◌≡◌ {A = ℕ} 0 1 = cc in absurd (omega arith)
  to_end false h e = omega (arith, length_is s, ltb-false before (length s) h)

  pub length_to_end : None ≡ position (λ x. eqb x 10) s → length s ≡ line_length s
  length_to_end e = to_end (ltb before (length s)) refl e

pub length_at_end : (s : List ℕ) (i : ℕ) → length s ≤ i → line_length (drop i s) ≡ 0
unfolding line_length
length_at_end s i h = rw (drop_of_length-le s h)

-- a line has a key where the key's bytes begin it, and the equals sign what follows them
both_true : (b : Bool) → b ≡ b && true
both_true true = refl
both_true false = refl

key_by : (same has front rest : Bool) → has ≡ front && rest → cond same has false ≡ same && front && rest
key_by true has front rest e = e
key_by false has front rest e = refl

pub key_is : (k l : List ℕ) → has_key k l ≡ pointwise eqb (take (length k) l) k && pointwise eqb (take 1 (drop (length k) l)) (61 ∷ [])
unfolding has_key
key_is [] [] = refl
key_is [] (b ∷ l) = both_true (eqb b 61)
key_is (k ∷ ks) [] = refl
key_is (k ∷ ks) (b ∷ l) = key_by (eqb b k) (has_key ks l) _ _ (key_is ks l)

-- what follows a key begins with the equals sign, or the line doesn't have the key
pub stripped : (k l rest : List ℕ) → pointwise eqb (take (length k) l) k ≡ true → rest ≡ drop (length k) l
    → has_key k l ≡ pointwise eqb (take 1 rest) (61 ∷ [])
stripped k l rest h e = key_is k l ∙ rw (h, ← e) refl

pub equals_first : (rest : List ℕ) → 1 ≤ length rest → eqb (get_or rest 0 0) 61 ≡ pointwise eqb (take 1 rest) (61 ∷ [])
equals_first [] h = absurd (not-suc-le-zero h)
equals_first (b ∷ t) h = both_true (eqb b 61)

pub equals_none : (rest : List ℕ) → length rest < 1 → false ≡ pointwise eqb (take 1 rest) (61 ∷ [])
equals_none [] h = refl
equals_none (b ∷ t) h = absurd (omega (arith, h))

key_step : (k : ℕ) (ks l : List ℕ) (b : ℕ) (same : Bool) → cond same (has_key ks l) false ≡ true → (has_key ks l ≡ true → length ks + 1 ≤ length l)
    → length ks + 1 ≤ length l
key_step k ks l b true e f = f e
key_step k ks l b false e f = let z : ◌≡◌ {A = ℕ} 0 1 = cc in absurd (omega arith)

-- a line that has a key is long enough for it
pub key_within : (k l : List ℕ) → has_key k l ≡ true → length k + 1 ≤ length l
unfolding has_key
key_within [] [] e = let z : ◌≡◌ {A = ℕ} 0 1 = cc in absurd (omega arith)
key_within [] (b ∷ l) e = omega arith
key_within (k ∷ ks) [] e = let z : ◌≡◌ {A = ℕ} 0 1 = cc in absurd (omega arith)
key_within (k ∷ ks) (b ∷ l) e = omega (arith, key_step k ks l b (eqb b k) e (key_within ks l))

-- one step of `lines` and of `line_length`, by the test
line_step : (b : ℕ) (t : List ℕ) (z : Bool) → eqb b 10 ≡ z → onto b (lines t) ≡ (b ∷ take (line_length t) t) ∷ lines (drop (line_length t) t)
    → lines (b ∷ t) ≡ take (line_length (b ∷ t)) (b ∷ t) ∷ lines (drop (line_length (b ∷ t)) (b ∷ t))
unfolding lines line_length
line_step b t true e h = rw (e, eqb-true b 10 e)
line_step b t false e h = rw e h

lines_cons : (b : ℕ) (t : List ℕ) → lines (b ∷ t) ≡ take (line_length (b ∷ t)) (b ∷ t) ∷ lines (drop (line_length (b ∷ t)) (b ∷ t))
lines_cons b [] = line_step b [] (eqb b 10) refl (unfold lines line_length in refl)
lines_cons b (x ∷ t) = line_step b (x ∷ t) (eqb b 10) refl (ap (onto b) (lines_cons x t))

-- the first line of a text, and the lines after it
pub lines_first : (s : List ℕ) → 0 < length s → lines s ≡ take (line_length s) s ∷ lines (drop (line_length s) s)
lines_first [] h = absurd (not-suc-le-zero h)
lines_first (b ∷ t) h = lines_cons b t

-- the same from a place i on, whose line ends at e
pub lines_at : (s : List ℕ) (i e : ℕ) → i < length s → e ≡ i + line_length (drop i s) → lines (drop i s) ≡ take (e - i) (drop i s) ∷ lines (drop e s)
lines_at s i e h f =
    let n : e - i ≡ line_length (drop i s) = omega arith in
    rw (n, f, ← drop-drop (line_length (drop i s)) i s, drop-cons s i 0 h) (lines_cons (get_or s i 0) (drop (suc i) s))

pub lines_past : (s : List ℕ) (i : ℕ) → length s ≤ i → lines (drop i s) ≡ []
unfolding lines
lines_past s i h = rw (drop_of_length-le s h)

length_step : (b : ℕ) (t : List ℕ) (z : Bool) → eqb b 10 ≡ z → line_length t ≤ length t → (0 < line_length (b ∷ t)) × (line_length (b ∷ t) ≤ suc (length t))
unfolding line_length
length_step b t true e h = rw e (omega arith)
length_step b t false e h = rw e (omega arith)

pub length_le : (s : List ℕ) → line_length s ≤ length s
length_le [] = unfold line_length in omega arith
length_le (b ∷ t) = (length_step b t (eqb b 10) refl (length_le t)).1

pub length_pos : (s : List ℕ) → 0 < length s → 0 < line_length s
length_pos [] h = absurd (not-suc-le-zero h)
length_pos (b ∷ t) h = (length_step b t (eqb b 10) refl (length_le t)).0

-- a line has a byte at least and ends within the text
pub line_within : (s : List ℕ) (i : ℕ) → i < length s → (i < i + line_length (drop i s)) × (i + line_length (drop i s) ≤ length s)
line_within s i h =
    (omega (arith, length_pos (drop i s) (simp length-drop (omega arith))), omega (arith, simp length-drop at (length_le (drop i s))))

-- the first line of a text's front: the text's own, as far as it goes
front_step : (b m k l : ℕ) (z : Bool) → k ≡ min l m → cond z 1 (suc k) ≡ min (cond z 1 (suc l)) (suc m)
front_step b m k l true e = omega arith
front_step b m k l false e = omega arith

pub front_length : (m : ℕ) (s : List ℕ) → m ≤ length s → line_length (take m s) ≡ min (line_length s) m
unfolding line_length
front_length zero s h = omega arith
front_length (suc m) [] h = absurd (not-suc-le-zero h)
front_length (suc m) (b ∷ t) h = front_step b m (line_length (take m t)) (line_length t) (eqb b 10) (front_length m t (omega arith))

-- a text is its lines, one after the other
onto_flatten : (b : ℕ) (ls : List (List ℕ)) → flatten (onto b ls) ≡ b ∷ flatten ls
unfolding flatten
onto_flatten b [] = refl
onto_flatten b (l ∷ ls) = refl

flatten_step : (b : ℕ) (t : List ℕ) (z : Bool) → eqb b 10 ≡ z → flatten (lines t) ≡ t → flatten (cond z ((10 ∷ []) ∷ lines t) (onto b (lines t))) ≡ b ∷ t
unfolding flatten
flatten_step b t true e h = rw (eqb-true b 10 e) (ap (λ r. 10 ∷ r) h)
flatten_step b t false e h = onto_flatten b (lines t) ∙ ap (λ r. b ∷ r) h

pub flatten_lines : (s : List ℕ) → flatten (lines s) ≡ s
unfolding lines flatten
flatten_lines [] = refl
flatten_lines (b ∷ t) = flatten_step b t (eqb b 10) refl (flatten_lines t)
