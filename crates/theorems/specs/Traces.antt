-- "Source document 000 gives the same meaning by traces, without the star and any": the meaning of a
-- program by its parts, where no residual program occurs.
use Rattle.std.specs.Prelude.{ℕ, ◌<◌, ◌≡◌, true, false, List, [], ◌∷◌, ◌++◌}
use Rattle.std.specs.Prelude.{Some}
use Rattle.semantics.specs.Domain.{Domain}
use Rattle.semantics.specs.Program.{Program, nil, move, any, test, seq, if_else, choice, while, star, pick, put}

-- from one state to another, by these moves. Nil is 000's `null`, of its rule (23); star and any,
-- which it lacks, are said in the same way. A variable without its pick has no trace
pub data Trace (D : Domain) : ℕ → Program → List ℕ → ℕ → Type 0 where
  of_nil : {s : ℕ} → Trace D s nil [] s
  -- "n = 1 and a₀ = a"
  of_move : {a s t : ℕ} → D.successor a s ≡ Some t → Trace D s (move a) (a ∷ []) t
  of_any : {a s t : ℕ} → a < D.moves → D.successor a s ≡ Some t → Trace D s any (a ∷ []) t
  -- "n = 0 and ϕ holds in s₀"
  of_test : {a s : ℕ} → D.holds a s ≡ true → Trace D s (test a) [] s
  -- "there exists an i such that s₀a₀…sᵢ is a trace of p₁ and sᵢaᵢ…sₙ is a trace of p₂"
  of_seq : {a b : Program} {s t u : ℕ} {ms ns : List ℕ} → Trace D s a ms t → Trace D t b ns u → Trace D s (seq a b) (ms ++ ns) u
  -- "a trace of p₁ if ϕ holds in s₀ or … a trace of p₂ if neg(ϕ) holds in s₀"
  of_then : {a s u : ℕ} {b c : Program} {ms : List ℕ} → D.holds a s ≡ true → Trace D s b ms u → Trace D s (if_else a b c) ms u
  of_else : {a s u : ℕ} {b c : Program} {ms : List ℕ} → D.holds a s ≡ false → Trace D s c ms u → Trace D s (if_else a b c) ms u
  -- "a trace of pᵢ for some i"
  of_left : {a b : Program} {s u : ℕ} {ms : List ℕ} → Trace D s a ms u → Trace D s (choice a b) ms u
  of_right : {a b : Program} {s u : ℕ} {ms : List ℕ} → Trace D s b ms u → Trace D s (choice a b) ms u
  -- "n = 0 and neg(ϕ) holds in s₀ or ϕ holds in s₀ and there exists some i such that s₀a₀…sᵢ is a trace
  -- of p₁ and sᵢaᵢ…sₙ is a trace of p"
  of_no_round : {a s : ℕ} {b : Program} → D.holds a s ≡ false → Trace D s (while a b) [] s
  of_round : {a s t u : ℕ} {b : Program} {ms ns : List ℕ} → D.holds a s ≡ true → Trace D s b ms t → Trace D t (while a b) ns u
      → Trace D s (while a b) (ms ++ ns) u
  of_no_turn : {a : Program} {s : ℕ} → Trace D s (star a) [] s
  of_turn : {a : Program} {s t u : ℕ} {ms ns : List ℕ} → Trace D s a ms t → Trace D t (star a) ns u → Trace D s (star a) (ms ++ ns) u
  -- "there exists a constant x … and α is a trace of q(x)"
  of_pick : {a : Program} {s u o : ℕ} {ms : List ℕ} → o < D.objects → Trace D s (put o 0 a) ms u → Trace D s (pick a) ms u

-- a plan by traces: one from the start to a state where the goal holds
pub record Traced (D : Domain) (σ : Program) (ms : List ℕ) : Type 0 where
  pub last : ℕ
  pub trace : Trace D D.start σ ms last
  pub reached : D.goal last ≡ true
