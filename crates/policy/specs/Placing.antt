-- Where an accepted record puts things, by the tables before and after: document 01, 'Where things go', for what
-- *stands for* does not see, numbers and the order of rows.
use Rattle.std.specs.Prelude.{ℕ, ◌<◌, ◌≡◌, ◌↔◌, ◌⊎◌, Bool, List, [], ◌∷◌, ◌++◌, map, T, length, get_or}
use mathlib.Core.List.{Memᴰ as In, Sublistᴰ as InOrder}
use Rattle.std.proofs.Math.Option.{some}
use Rattle.policy.specs.Contract.{Tok, Row}
use Rattle.policy.specs.Layout.{Layout}
use Rattle.policy.specs.Record.{Request, Change, load, remove, parse}
use Rattle.policy.specs.Record.{add_service, remove_service, add_call, remove_call, add_grant, remove_grant, add_need, remove_need, replace}
use Rattle.policy.specs.Tables.{Tables, Unmet, Waiting, no_tok, decode}
use Rattle.policy.specs.Lookup.{wanted, grant_at}
use Rattle.policy.specs.Sound.{sound}
use Rattle.policy.specs.Judge.{judge}

-- ---- numbers
-- n is the lowest number that is not taken
abbrev pub Lowest : (ℕ → Bool) → ℕ → Type 0
Lowest taken n = (T (taken n) → ⊥) × ((i : ℕ) → i < n → T (taken i))

-- what had a number before and has one afterwards has the same one: of the numbers taken before and of those taken
-- afterwards, equal ones and no others have the same value
abbrev pub Stay : {A : Type 0} → (ℕ → Bool) → (ℕ → A) → (ℕ → Bool) → (ℕ → A) → Type 0
Stay taken value taken' value' = (n p : ℕ) → T (taken n) → T (taken' p) → (value n ≡ value' p) ↔ (n ≡ p)

-- ---- lists
-- what a kind says of one: rows that leave it whatever the record has, and the order of those that follow
pub record Listed (A : Type 0) : Type 1 where
  pub leaves : A → Type 0
  pub order : List A → Type 0

-- no row has to leave
abbrev pub following : {A : Type 0} → (List A → Type 0) → Listed A
following o = record { leaves = λ x. ⊥; order = o }

-- 'What leaves a list is closed up in order. Then new rows are put at the end.' Only a row that has to leave may come again
pub record ClosedUp {A : Type 0} (before after : List A) (rule : Listed A) : Type 0 where
  pub stayed : List A
  pub new : List A
  pub is : after ≡ stayed ++ new
  pub in_order : InOrder stayed before
  pub left : (x : A) → In x stayed → rule.leaves x → ⊥
  pub unseen : (x : A) → In x new → In x before → rule.leaves x
  pub ordered : rule.order new

-- 'New rows come in record order': those of package m, which are some of the record's rows
abbrev pub AsRecorded : {A : Type 0} → (A → Row) → (A → ℕ) → ℕ → List Row → List A → Type 0
AsRecorded {A} row owner m rows new = InOrder (map row new) rows × ((x : A) → In x new → owner x ≡ m)

-- one sort of rows after another
abbrev pub Then : {A : Type 0} → (List A → Type 0) → (List A → Type 0) → List A → Type 0
Then {A} P Q l = (x y : List A) × (l ≡ x ++ y) × P x × Q y

-- numbers that go up
abbrev pub Rises : List ℕ → Type 0
Rises [] = Unit {0}
Rises (n ∷ l) = ((k : ℕ) → In k l → n < k) × Rises l

-- pairs of numbers that go up, by the first, then by the second
abbrev pub Below : ℕ × ℕ → ℕ × ℕ → Type 0
Below p q = (p.0 < q.0) ⊎ ((p.0 ≡ q.0) × (p.1 < q.1))

abbrev pub GoesUp : List (ℕ × ℕ) → Type 0
GoesUp [] = Unit {0}
GoesUp (p ∷ l) = ((q : ℕ × ℕ) → In q l → Below p q) × GoesUp l

-- 'by caller number then the service number', 'by callee number then service number': the rows of pairs whose bits were set
abbrev pub ByNumber : {A : Type 0} → (ℕ → ℕ → Bool) → (ℕ → ℕ → A) → List A → Type 0
ByNumber bits row new = (ps : List (ℕ × ℕ)) × GoesUp ps × ((p : ℕ × ℕ) → In p ps → T (bits p.0 p.1))
    × (new ≡ map (λ p. row p.0 p.1) ps)

-- ---- new rows, by the number m of the record's package and the tables before or after
-- unmet calls of package m that the record has, and its grants that wait
abbrev pub CallsOf : ℕ → List Row → List Unmet → Type 0
CallsOf m rows = AsRecorded wanted (λ u. u.caller) m rows

abbrev pub GrantsOf : ℕ → List Row → List Waiting → Type 0
GrantsOf m rows = AsRecorded grant_at (λ w. w.callee) m rows

-- 'after kind 2 or 4, unmet calls by caller number then the service number it had'
abbrev pub CallsOn : Tables → ℕ → List Unmet → Type 0
CallsOn before m = ByNumber (λ i k. before.calls i m k) (λ i k. record { callee = before.aid m; tok = before.tok m k; caller = i })

-- 'after kind 2, waiting grants by callee number then service number'
abbrev pub GrantsTo : Tables → ℕ → List Waiting → Type 0
GrantsTo before m = ByNumber (λ j k. before.grants j m k) (λ j k. record { caller = before.aid m; callee = j; tok = before.tok j k })

-- R-2: 'Kind 4 keeps the grants, which wait behind the rows already there, by caller number'
abbrev pub GrantsBy : Tables → ℕ → List Waiting → Type 0
GrantsBy before m = ByNumber (λ i k. before.grants m i k) (λ i k. record { caller = before.aid i; callee = m; tok = before.tok m k })

-- R-1: 'Services in both contracts keep theirs; dropped ones free theirs, then the others take the lowest unused in record order': those
-- of p that package m did not provide take these numbers, each with no unused one below it
pub record TakenAnew (before after : Tables) (m : ℕ) (p : List Tok) (taken : List ℕ) : Type 0 where
  pub keep : (i k : ℕ) → T (before.provides m i) → T (after.provides m k) → before.tok m i ≡ after.tok m k → i ≡ k
  pub in_order : InOrder (map (after.tok m) taken) p
  pub rising : Rises taken
  pub are_new : (k : ℕ) → In k taken → T (after.provides m k) × ((i : ℕ) → T (before.provides m i) → before.tok m i ≡ after.tok m k → ⊥)
  pub lowest : (k : ℕ) → In k taken → (i : ℕ) → i < k → T (after.provides m i)
  pub all_new : (k : ℕ) → T (after.provides m k) → In k taken ⊎ (T (before.provides m k) × (after.tok m k ≡ before.tok m k))

-- ---- the rules, by kind: of the numbers taken, and of the rows of each list
pub record Rule : Type 1 where
  pub numbers : Type 0
  -- packages whose freed service numbers others of their services take
  pub renewed : ℕ → Type 0
  pub unmet : Listed Unmet
  pub waiting : Listed Waiting

module _ (before after : Tables) (m : ℕ) where
  -- numbers, and the order of new rows
  abbrev pub placing : Type 0 → (List Unmet → Type 0) → (List Waiting → Type 0) → Rule
  placing n u w = record { numbers = n; renewed = λ j. ⊥; unmet = following u; waiting = following w }

  -- no number is taken, and no grant waits anew
  abbrev pub only_calls : (List Unmet → Type 0) → Rule
  only_calls u = placing (Unit {0}) u (GrantsOf m [])

  abbrev pub rule : Change → Rule
  -- 'A load takes the lowest unused package number. Its services take 0, 1, 2 in record order.'
  rule (load p c g n) = placing
      (Lowest before.used m
      × ((k : ℕ) → T (after.provides m k) ↔ (k < length p))
      × ((k : ℕ) → k < length p → after.tok m k ≡ get_or p k no_tok))
      (CallsOf m c) (GrantsOf m g)
  rule remove = placing (Unit {0}) (CallsOn before m) (GrantsTo before m)
  -- 'Kind 3 takes the lowest unused service number.'
  rule (add_service s l) = placing
      ((k : ℕ) × Lowest (before.provides m) k × T (after.provides m k) × (after.tok m k ≡ s))
      (CallsOf m []) (GrantsOf m (map (λ a. record { aid = a; tok = s }) l))
  rule (remove_service s) = placing (Unit {0}) (CallsOn before m) (GrantsBy before m)
  rule (add_call r) = only_calls (CallsOf m (r ∷ []))
  rule (remove_call r) = only_calls (CallsOf m [])
  rule (add_grant r) = placing (Unit {0}) (CallsOf m []) (GrantsOf m (r ∷ []))
  rule (remove_grant r) = only_calls (CallsOf m [])
  rule (add_need r) = only_calls (CallsOf m [])
  rule (remove_need r) = only_calls (CallsOf m [])
  -- R-1: 'The package's own list rows and rows now met leave; its unmet calls follow in record order, then other packages' calls on dropped
  -- services by caller number and service number; its waiting grants follow in record order.'
  rule (replace p c g n) = record {
    numbers = (taken : List ℕ) × TakenAnew before after m p taken;
    renewed = λ j. j ≡ m;
    unmet = record { leaves = λ u. u.caller ≡ m; order = Then (CallsOf m c) (CallsOn before m) };
    waiting = record { leaves = λ w. w.callee ≡ m; order = GrantsOf m g };
  }

-- the tables before and after a change of package m
pub record Placed (before after : Tables) (m : ℕ) (c : Change) : Type 0 where
  pub packages_stay : Stay before.used before.aid after.used after.aid
  pub services_stay : (j : ℕ) → ((rule before after m c).renewed j → ⊥)
      → Stay (before.provides j) (before.tok j) (after.provides j) (after.tok j)
  pub numbers : (rule before after m c).numbers
  pub unmet : ClosedUp before.unmet after.unmet (rule before after m c).unmet
  pub waiting : ClosedUp before.waiting after.waiting (rule before after m c).waiting

abbrev pub Placing : Layout → Type 0
Placing L = (img s : List ℕ) (q : Request) → T (sound L img) → parse L s ≡ some q → (judge L img s).answered ≡ 0
    → Placed (decode L img) (decode L (judge L img s).bytes) (judge L img s).second q.change
