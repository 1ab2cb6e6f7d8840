-- A value is read as numbers just where it is their text.
-- Assumes nothing.
use Prim.Native.Nat.{ℕ, zero, suc, ◌+◌, ◌-◌, ◌*◌, ◌/◌, ◌%◌, ◌≤◌, ◌<◌}
use mathlib.Core.Path.{◌≡◌, refl, ◌∙◌, ap}
use mathlib.Core.Bool.{true}
use mathlib.Core.List.{List, [], ◌∷◌, ◌++◌, append_assoc, append-nil, foldl, foldl-append}
use Rattle.std.specs.Prelude.{Some}
use native.Mathlib.Omega.{arith}
use native.Mathlib.Decide.{dec_lt}
use lib.Dec.{eqb, ltb, leb}
use lib.ListN.{length, length-append}
use borrow.Author.Tests.{eqb-true, eqb-false, ltb-true, lt-ltb, le-ltb, le-leb, eq-eqb, ne_eqb}
use Rattle.laws.proofs.Tests.{cond_has, and_both}
use Rattle.text.specs.Numbers.{PartialValue, start, digits, done, broken, is_digit, first_digit, more_digits, number_end, byte_read, numbers_outcome, numbers}
use Rattle.text.specs.Written.{digits_within, decimal, written}
use Rattle.text.proofs.NumberLaws.{digit_within}

-- each is at most 65,535
abbrev pub Small : List ℕ → Type 0
Small [] = Unit {0}
Small (n ∷ ns) = (n ≤ 65535) × Small ns

-- a value is just the text of these numbers, so many
pub record IsValue (want : ℕ) (ns value : List ℕ) : Type 0 where
  pub count : length ns ≡ want
  pub small : Small ns
  pub text : value ≡ written ns

-- how many digits there may be at the most makes no difference
fuel : (k j n : ℕ) → n < k → n < j → digits_within k n ≡ digits_within j n
unfolding digits_within
fuel zero j n h g = absurd (omega arith)
fuel (suc k) zero n h g = absurd (omega arith)
fuel (suc k) (suc j) n h g = elim (dec_lt n 10) [
  | yes d ↦ rw (lt-ltb n 10 d)
  | no d ↦ (let e : 10 ≤ n = omega arith in
      rw (le-ltb n 10 e) (ap (λ l. l ++ ((48 + n % 10) ∷ [])) (fuel k j (n / 10) (omega arith) (omega arith))))
]

pub decimal_digit : (n : ℕ) → n < 10 → decimal n ≡ (48 + n) ∷ []
unfolding digits_within
decimal_digit n h = rw (lt-ltb n 10 h)

pub decimal_tens : (n : ℕ) → 10 ≤ n → decimal n ≡ decimal (n / 10) ++ ((48 + n % 10) ∷ [])
unfolding digits_within
decimal_tens n h = rw (le-ltb n 10 h) (ap (λ l. l ++ ((48 + n % 10) ∷ [])) (fuel n (suc (n / 10)) (n / 10) (omega arith) (omega arith)))

-- a digit more
decimal_more : (n b : ℕ) → (n ≡ 0 → ⊥) → (48 ≤ b) × (b ≤ 57) → decimal (n * 10 + (b - 48)) ≡ decimal n ++ (b ∷ [])
decimal_more n b z h =
    let m : ℕ = n * 10 + (b - 48) in
    let p : 10 ≤ n * 10 + (b - 48) = omega (arith, z) in
    let q : (n * 10 + (b - 48)) / 10 ≡ n = omega (arith, h.0, h.1) in
    let d : 48 + (n * 10 + (b - 48)) % 10 ≡ b = omega (arith, h.0, h.1) in
    decimal_tens (n * 10 + (b - 48)) p ∙ ap (λ k. decimal k ++ ((48 + (n * 10 + (b - 48)) % 10) ∷ [])) q ∙ ap (λ c. decimal n ++ (c ∷ [])) d

-- numbers, each with a comma behind
unfoldable commas : List ℕ → List ℕ
commas [] = []
commas (n ∷ l) = decimal n ++ (44 ∷ commas l)

commas_more : (l : List ℕ) (n : ℕ) → commas (l ++ (n ∷ [])) ≡ commas l ++ decimal n ++ (44 ∷ [])
unfolding commas
commas_more [] n = refl
commas_more (m ∷ l) n = rw (commas_more l n) (simp append_assoc)

written_last : (l : List ℕ) (n : ℕ) → written (l ++ (n ∷ [])) ≡ commas l ++ decimal n ++ (10 ∷ [])
unfolding commas written
written_last [] n = refl
written_last (m ∷ []) n = simp append_assoc
written_last (m ∷ k ∷ l) n = rw (written_last (k ∷ l) n) (simp append_assoc)

small_more : (l : List ℕ) (n : ℕ) → Small l → n ≤ 65535 → Small (l ++ (n ∷ []))
small_more [] n s h = (h, tt)
small_more (m ∷ l) n s h = (s.0, small_more l n s.1 h)

-- the bytes that lead to a partial value, and that its numbers are small; nothing is said of a
-- broken form
abbrev Spelt : ℕ → PartialValue → List ℕ → Type 0
Spelt want (start l) v = (v ≡ commas l) × Small l
Spelt want (digits l n) v = (v ≡ commas l ++ decimal n) × Small l × (n ≤ 65535)
Spelt want (done l) v = (v ≡ written l) × Small l × (length l ≡ want)
Spelt want broken v = Unit {0}

module _ (want : ℕ) (v : List ℕ) (b : ℕ) where
  abbrev v+ : List ℕ
  v+ = v ++ (b ∷ [])

  spelt_first : (l : List ℕ) → Spelt want (start l) v → Spelt want (first_digit l b) v+
  spelt_first l s = cond_has (λ q. Spelt want q v+) (is_digit b) (digits l (b - 48)) broken
      (λ e.
      let w = digit_within b e in
      let d : 48 + (b - 48) ≡ b = omega (arith, w.0) in
      (rw (s.0, decimal_digit (b - 48) (omega (arith, w.1)), d), s.1, omega (arith, w.1)))
      (λ e. tt)

  spelt_more : (l : List ℕ) (n : ℕ) → is_digit b ≡ true → Spelt want (digits l n) v → Spelt want (more_digits l n b) v+
  spelt_more l n e s = cond_has (λ q. Spelt want q v+) (eqb n 0) broken _ (λ z. tt)
      (λ z. cond_has (λ q. Spelt want q v+) (ltb (n * 10 + (b - 48)) 65536) (digits l (n * 10 + (b - 48))) broken
      (λ y.
      let m = ltb-true (n * 10 + (b - 48)) 65536 y in
      (rw (s.0, decimal_more n b (eqb-false n 0 z) (digit_within b e)) (append_assoc (commas l) (decimal n) (b ∷ [])), s.1, omega (arith, m)))
      (λ y. tt))

  spelt_end : (l : List ℕ) (n : ℕ) → Spelt want (digits l n) v → Spelt want (number_end want l n b) v+
  spelt_end l n s = cond_has (λ q. Spelt want q v+) (eqb b 44) _ _
      (λ e. cond_has (λ q. Spelt want q v+) (ltb (length l + 1) want) (start (l ++ (n ∷ []))) broken
      (λ y. (rw (commas_more l n, s.0, eqb-true b 44 e), small_more l n s.1 s.2)) (λ y. tt))
      (λ z. cond_has (λ q. Spelt want q v+) (eqb b 10) _ broken
      (λ e. cond_has (λ q. Spelt want q v+) (eqb (length l + 1) want) (done (l ++ (n ∷ []))) broken
      (λ y.
      (rw (written_last l n, s.0, eqb-true b 10 e), small_more l n s.1 s.2, length-append l (n ∷ []) ∙ omega (arith, eqb-true (length l + 1) want y)))
      (λ y. tt))
      (λ e. tt))

  spelt_byte : (s : PartialValue) → Spelt want s v → Spelt want (byte_read want s b) v+
  unfolding byte_read
  spelt_byte (start l) s = spelt_first l s
  spelt_byte (digits l n) s = cond_has (λ q. Spelt want q v+) (is_digit b) (more_digits l n b) (number_end want l n b) (λ e. spelt_more l n e s)
      (λ e. spelt_end l n s)
  spelt_byte (done l) s = tt
  spelt_byte broken s = tt

spelt_all : (want : ℕ) (w v : List ℕ) (s : PartialValue) → Spelt want s v → Spelt want (foldl (byte_read want) s w) (v ++ w)
spelt_all want [] v s h = rw (append-nil v) h
spelt_all want (b ∷ w) v s h = rw (← append_assoc v (b ∷ []) w) (spelt_all want w (v ++ (b ∷ [])) (byte_read want s b) (spelt_byte want v b s h))

digit_is : (d : ℕ) → d < 10 → is_digit (48 + d) ≡ true
digit_is d h = and_both (leb 48 (48 + d)) (leb (48 + d) 57) (le-leb 48 (48 + d) (omega arith)) (le-leb (48 + d) 57 (omega arith))

-- the text of a number is read as that number
decimal_read : (want : ℕ) (l : List ℕ) (k n : ℕ) → n < k → n ≤ 65535 → foldl (byte_read want) (start l) (digits_within k n) ≡ digits l n
unfolding digits_within byte_read
decimal_read want l zero n h g = absurd (omega arith)
decimal_read want l (suc k) n h g = elim (dec_lt n 10) [
  | yes d ↦ (let f : 48 + n - 48 ≡ n = omega arith in
      rw (lt-ltb n 10 d, digit_is n d) (ap (digits l) f))
  | no d ↦ (let t : 10 ≤ n = omega arith in
      let e : is_digit (48 + n % 10) ≡ true = digit_is (n % 10) (omega arith) in
      let z : n / 10 ≡ 0 → ⊥ = λ (y : n / 10 ≡ 0). omega arith in
      let f : n / 10 * 10 + (48 + n % 10 - 48) ≡ n = omega arith in
      rw (
        le-ltb n 10 t,
        foldl-append (byte_read want) (start l) (digits_within k (n / 10)) ((48 + n % 10) ∷ []),
        decimal_read want l k (n / 10) (omega arith) (omega arith),
        e,
        ne_eqb (n / 10) 0 z,
        f,
        lt-ltb n 65536 (omega arith),
      ))
]

module _ (want : ℕ) where
  comma_read : (l : List ℕ) (n : ℕ) → length l + 1 < want → byte_read want (digits l n) 44 ≡ start (l ++ (n ∷ []))
  unfolding byte_read
  comma_read l n h = rw (lt-ltb (length l + 1) want h)

  feed_read : (l : List ℕ) (n : ℕ) → length l + 1 ≡ want → byte_read want (digits l n) 10 ≡ done (l ++ (n ∷ []))
  unfolding byte_read
  feed_read l n h = rw (eq-eqb (length l + 1) want h)

  written_read : (l : List ℕ) (n : ℕ) (ns : List ℕ) → length l + length (n ∷ ns) ≡ want → Small (n ∷ ns)
      → foldl (byte_read want) (start l) (written (n ∷ ns)) ≡ done (l ++ (n ∷ ns))
  unfolding written
  written_read l n [] h s =
      foldl-append (byte_read want) (start l) (decimal n) (10 ∷ [])
      ∙ ap (λ q. byte_read want q 10) (decimal_read want l (suc n) n (omega arith) s.0) ∙ feed_read l n (omega arith)
  written_read l n (m ∷ ns) h s =
      foldl-append (byte_read want) (start l) (decimal n) (44 ∷ written (m ∷ ns))
      ∙ ap (λ q. foldl (byte_read want) (byte_read want q 44) (written (m ∷ ns))) (decimal_read want l (suc n) n (omega arith) s.0)
      ∙ ap (λ q. foldl (byte_read want) q (written (m ∷ ns))) (comma_read l n (omega arith))
      ∙ written_read (l ++ (n ∷ [])) m ns (rw (length-append l (n ∷ [])) (omega arith)) s.1
      ∙ ap done (append_assoc l (n ∷ []) (m ∷ ns))

-- a value is read as numbers, one or more, just where it is their text
pub numbers_sound : (want : ℕ) (ns value : List ℕ) → numbers want value ≡ Some ns → IsValue want ns value
unfolding numbers commas
numbers_sound want ns value e = sound (foldl (byte_read want) (start []) value) (spelt_all want value [] (start []) (refl, tt)) e
  where
    sound : (s : PartialValue) → Spelt want s value → numbers_outcome s ≡ Some ns → IsValue want ns value
    sound (start l) h e = let z : ◌≡◌ {A = ℕ} 0 1 = cc in absurd (omega arith)
    sound (digits l n) h e = let z : ◌≡◌ {A = ℕ} 0 1 = cc in absurd (omega arith)
    sound (done l) h e = let f : l ≡ ns = cc in record { count = rw (← f) h.2; small = rw (← f) h.1; text = rw (← f) h.0 }
    sound broken h e = let z : ◌≡◌ {A = ℕ} 0 1 = cc in absurd (omega arith)

pub numbers_complete : (want n : ℕ) (ns value : List ℕ) → IsValue want (n ∷ ns) value → numbers want value ≡ Some (n ∷ ns)
unfolding numbers
numbers_complete want n ns value h = rw h.text (ap numbers_outcome (written_read want [] n ns (omega (arith, h.count)) h.small))
