-- A line is read as numbers just where it is the text of its key and of these numbers; so it is
-- short.
-- Assumes nothing.
use Prim.Native.Nat.{ℕ, zero, suc, ◌+◌, ◌*◌, ◌/◌, ◌%◌, ◌≤◌}
use mathlib.Core.Path.{◌≡◌, refl, ◌∙◌, ap}
use mathlib.Core.Bool.{Bool, true, false, cond}
use mathlib.Core.List.{List, [], ◌∷◌, ◌++◌}
use Rattle.std.specs.Prelude.{Some}
use native.Mathlib.Omega.{arith}
use native.Mathlib.Decide.{dec_lt}
use lib.Dec.{eqb}
use lib.ListN.{length, drop, length-append}
use lib.Seq.{drop-append-add}
use borrow.Author.Tests.{eqb-true, eq-eqb, ne_eqb, lt-ltb, le-ltb}
use Rattle.laws.proofs.Tests.{never}
use Rattle.text.specs.Lines.{lines, onto, has_key, value_of}
use Rattle.text.specs.Numbers.{numbers}
use Rattle.text.specs.Written.{digits_within, decimal, written, line_text}
use Rattle.text.proofs.WrittenLaws.{Small, IsValue, numbers_sound, numbers_complete}
use Rattle.text.proofs.DecimalLaws.{decimal_short}

both : (b k : ℕ) (rest same : Bool) → eqb b k ≡ same → cond same rest false ≡ true → (b ≡ k) × (rest ≡ true)
both b k rest true e h = (eqb-true b k e, h)
both b k rest false e h = never h

-- a line that has a key begins with it and an equals sign
key_front : (k l : List ℕ) → has_key k l ≡ true → l ≡ k ++ (61 ∷ drop (length k + 1) l)
unfolding has_key
key_front [] [] e = never e
key_front [] (b ∷ l) e = rw (eqb-true b 61 e)
key_front (k ∷ ks) [] e = never e
key_front (k ∷ ks) (b ∷ l) e =
    let h = both b k (has_key ks l) (eqb b k) refl e in
    let n : suc (length ks) + 1 ≡ suc (length ks + 1) = omega arith in
    rw (h.0, n) (ap (λ r. k ∷ r) (key_front ks l h.1))

key_has : (k v : List ℕ) → has_key k (k ++ (61 ∷ v)) ≡ true
unfolding has_key
key_has [] v = refl
key_has (k ∷ ks) v = rw (eq-eqb k k refl) (key_has ks v)

pub line_sound : (key : List ℕ) (want : ℕ) (ns line : List ℕ) → numbers want (value_of key line) ≡ Some ns
    → IsValue want ns (value_of key line) × (line ≡ line_text key ns)
unfolding value_of numbers
line_sound key want ns line e = sound (has_key key line) refl e
  where
    sound : (b : Bool) → has_key key line ≡ b → numbers want (cond b (drop (length key + 1) line) []) ≡ Some ns
        → IsValue want ns (cond (has_key key line) (drop (length key + 1) line) []) × (line ≡ line_text key ns)
    sound true h e = let v = numbers_sound want ns (drop (length key + 1) line) e in (rw h v, key_front key line h ∙ ap (λ r. key ++ (61 ∷ r)) v.text)
    sound false h e = let z : ◌≡◌ {A = ℕ} 0 1 = cc in absurd (omega arith)

pub line_complete : (key : List ℕ) (want n : ℕ) (ns : List ℕ) → length (n ∷ ns) ≡ want → Small (n ∷ ns)
    → numbers want (value_of key (line_text key (n ∷ ns))) ≡ Some (n ∷ ns)
unfolding value_of
line_complete key want n ns h s =
    let d : drop (length key + 1) (key ++ (61 ∷ written (n ∷ ns))) ≡ written (n ∷ ns) = drop-append-add key (61 ∷ written (n ∷ ns)) 1 in
    rw (key_has key (written (n ∷ ns)), d) (numbers_complete want n ns (written (n ∷ ns)) (record { count = h; small = s; text = refl }))

written_short : (n : ℕ) (ns : List ℕ) → Small (n ∷ ns) → length (written (n ∷ ns)) ≤ 6 * length (n ∷ ns)
unfolding written
written_short n [] s = simp length-append (omega (arith, decimal_short 4 n (omega (arith, s.0))))
written_short n (m ∷ ns) s = simp length-append (omega (arith, decimal_short 4 n (omega (arith, s.0)), written_short m ns s.1))

values_short : (ns : List ℕ) → Small ns → length (written ns) ≤ 6 * length ns + 1
values_short [] s = unfold written in omega arith
values_short (n ∷ ns) s = omega (arith, written_short n ns s)

-- a line of so many numbers has six bytes at the most for each, beside its key, the equals sign
-- and, without numbers, its line feed
abbrev pub most_bytes : List ℕ → ℕ → ℕ
most_bytes key want = length key + 2 + 6 * want

pub line_short : (key : List ℕ) (want : ℕ) (ns line : List ℕ) → numbers want (value_of key line) ≡ Some ns → length line ≤ most_bytes key want
line_short key want ns line e =
    let v = line_sound key want ns line e in
    omega (arith, ap length v.1 ∙ length-append key (61 ∷ written ns), values_short ns v.0.small, v.0.count)

-- no line feed among these bytes; and one as the last of them alone
abbrev pub plain : List ℕ → Bool
plain [] = true
plain (b ∷ l) = cond (eqb b 10) false (plain l)

abbrev pub ends_once : List ℕ → Bool
ends_once [] = false
ends_once (b ∷ []) = eqb b 10
ends_once (b ∷ c ∷ l) = cond (eqb b 10) false (ends_once (c ∷ l))

not_feed : (b : ℕ) (rest same : Bool) → eqb b 10 ≡ same → cond same false rest ≡ true → (eqb b 10 ≡ false) × (rest ≡ true)
not_feed b rest true e h = never h
not_feed b rest false e h = (e, h)

-- such bytes are the first line of a text that they begin
pub line_of_lem : (l t : List ℕ) → ends_once l ≡ true → lines (l ++ t) ≡ l ∷ lines t
unfolding lines
line_of_lem [] t e = never e
line_of_lem (b ∷ []) t e = rw (e, eqb-true b 10 e)
line_of_lem (b ∷ c ∷ l) t e =
    let h = not_feed b (ends_once (c ∷ l)) (eqb b 10) refl e in
    rw h.0 (ap (onto b) (line_of_lem (c ∷ l) t h.1))

ends_after : (b : ℕ) (l : List ℕ) → eqb b 10 ≡ false → ends_once l ≡ true → ends_once (b ∷ l) ≡ true
ends_after b [] e h = never h
ends_after b (c ∷ l) e h = rw e h

pub plain_ends : (a l : List ℕ) → plain a ≡ true → ends_once l ≡ true → ends_once (a ++ l) ≡ true
plain_ends [] l e h = h
plain_ends (b ∷ a) l e h = let g = not_feed b (plain a) (eqb b 10) refl e in ends_after b (a ++ l) g.0 (plain_ends a l g.1 h)

pub plain_both : (a b : List ℕ) → plain a ≡ true → plain b ≡ true → plain (a ++ b) ≡ true
plain_both [] b e h = h
plain_both (x ∷ a) b e h = let g = not_feed x (plain a) (eqb x 10) refl e in rw g.0 (plain_both a b g.1 h)

pub digits_plain : (k n : ℕ) → plain (digits_within k n) ≡ true
unfolding digits_within
digits_plain zero n = refl
digits_plain (suc k) n = elim (dec_lt n 10) [
  | yes d ↦ rw (lt-ltb n 10 d, ne_eqb (48 + n) 10 (λ z. omega arith))
  | no d ↦ (let e : 10 ≤ n = omega arith in
      rw (le-ltb n 10 e) (plain_both (digits_within k (n / 10)) ((48 + n % 10) ∷ []) (digits_plain k (n / 10))
      (rw (ne_eqb (48 + n % 10) 10 (λ z. omega arith)))))
]

written_ends : (n : ℕ) (ns : List ℕ) → ends_once (written (n ∷ ns)) ≡ true
unfolding written
written_ends n [] = plain_ends (decimal n) (10 ∷ []) (digits_plain (suc n) n) refl
written_ends n (m ∷ ns) = plain_ends (decimal n) (44 ∷ written (m ∷ ns)) (digits_plain (suc n) n) (ends_after 44 (written (m ∷ ns)) refl (written_ends m ns))

-- a line's text ends in its only line feed
pub line_ends : (key : List ℕ) (n : ℕ) (ns : List ℕ) → plain key ≡ true → ends_once (line_text key (n ∷ ns)) ≡ true
line_ends key n ns e = plain_ends key (61 ∷ written (n ∷ ns)) e (ends_after 61 (written (n ∷ ns)) refl (written_ends n ns))
