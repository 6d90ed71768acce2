-- What the code's readers give, in the words of policy: a thing that was read and the bytes after it, or nothing.
use Rattle.std.specs.Prelude.{ℕ, zero, suc, ◌≡◌, ◌<◌, List, Option, Some, None, option_and_then}
use Rattle.std.specs.Borrow.{Bor}
use Rattle.policy.specs.Layout.{Layout}
use Rattle.policy.specs.Record.{Got, got, bad, Reader, given, ◌>>=◌, done, number, whole, valid_tokens}
use Rattle.std.proofs.Math.Dec.{leb}
use Rattle.std.proofs.Math.Option.{Option as Maybe, none, some}
use Rattle.geometry.specs.Geometry.{tok_of}
use Rattle.geometry.specs.declared.Tokens.{Tokens}

-- what was read, as view sees it
abbrev pub got_of : {A B : Type 0} → (A → B) → Option (A × Bor (List ℕ)) → Got B
got_of view (Some x) = got (view x.0) x.1.now
got_of view None = bad

-- r is what p reads at the front of s, and nothing exactly where p reads nothing
abbrev pub Reads : {A B : Type 0} → (A → B) → Reader B → List ℕ → Option (A × Bor (List ℕ)) → Type 0
Reads view p s r = got_of view r ≡ p s

module _ (L : Layout) where
  -- the method token that was read is below the card's limit
  abbrev pub InRange : Option (Tokens × Bor (List ℕ)) → Type 0
  InRange (Some x) = x.0.method < L.methods
  InRange None = Unit {0}

  -- R-7: r is the tokens at the front of s, and 'the token reading promises that range'
  pub record TokensTaken (s : List ℕ) (r : Option (Tokens × Bor (List ℕ))) : Type 0 where
    pub reads : Reads tok_of (valid_tokens L) s r
    pub in_range : InRange r

-- a number of w bytes, at most most
abbrev pub count : ℕ → ℕ → Reader ℕ
count w most = number w >>= λ n. given (leb n most) (done n)

abbrev pub CountTaken : ℕ → ℕ → List ℕ → Option (ℕ × Bor (List ℕ)) → Type 0
CountTaken w most s r = Reads (λ n. n) (count w most) s r

-- ---- the bytes after what was read
abbrev pub after : {A : Type 0} → Got A → Option (List ℕ)
after (got a s) = Some s
after bad = None

abbrev pub rest_of : Option (Bor (List ℕ)) → Option (List ℕ)
rest_of (Some s) = Some s.now
rest_of None = None

-- those after n things, where f gives those after one
abbrev pub times : (List ℕ → Option (List ℕ)) → ℕ → List ℕ → Option (List ℕ)
times f zero s = Some s
times f (suc n) s = option_and_then (times f n) (f s)

-- ---- a reader that moves on: of its bytes it goes to another place, and where nothing is read it stays
pub record Moves {A : Type 0} (src : Bor (List ℕ)) (at : ℕ) (r : Option A) (new : Bor (List ℕ)) (next : ℕ) : Type 0 where
  pub same : new ≡ src
  pub stays : r ≡ None → next ≡ at

-- what it had left to read is s, and now is t
abbrev pub got_on : {A B : Type 0} → (A → B) → Option A → List ℕ → Got B
got_on view (Some x) t = got (view x) t
got_on view None t = bad

abbrev pub ReadsOn : {A B : Type 0} → (A → B) → Reader B → List ℕ → Option A → List ℕ → Type 0
ReadsOn view p s r t = got_on view r t ≡ p s

module _ (L : Layout) where
  abbrev pub OnInRange : Option Tokens → Type 0
  OnInRange (Some x) = x.method < L.methods
  OnInRange None = Unit {0}

  pub record TokensOn (s : List ℕ) (r : Option Tokens) (t : List ℕ) : Type 0 where
    pub reads : ReadsOn tok_of (valid_tokens L) s r t
    pub in_range : OnInRange r

-- ---- r is what p reads of s with no bytes left over, and nothing exactly where there is none
abbrev pub seen : {A B : Type 0} → (A → B) → Option A → Maybe B
seen view (Some x) = some (view x)
seen view None = none

abbrev pub ReadsAll : {A B : Type 0} → (A → B) → Reader B → List ℕ → Option A → Type 0
ReadsAll view p s r = seen view r ≡ whole (p s)
