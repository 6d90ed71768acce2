-- What a call of each exported function returns and leaves: the functions' contracts, and what the demands speak of.
use Rattle.std.specs.Prelude.{ℕ, ◌≡◌, cond, List, [], ◌∷◌, eqb, length, get_or}
use Rattle.policy.specs.Layout.{Layout, narrow, small, large, size}
use Rattle.policy.specs.Record.{first_aid}
use Rattle.policy.specs.Judge.{Out, judge, check, write_empty, read_out}
use Rattle.policy.specs.Eras.{convert}
use Rattle.geometry.specs.Geometry.{layout_of}
use Rattle.geometry.specs.declared.Card.{Card}
use Rattle.geometry.specs.declared.Card.TheVariants.{Small, Large}
use Rattle.card.specs.Packed.{packed, aid_place}

-- R-9: an image is of the card whose images are as long. One that is as long as no card's is judged as the small card's, and so gets 1
unfoldable pub sized : ℕ → Card
sized n = cond (eqb n (size large)) Large Small

-- the card of an image, by the rules in force
abbrev pub on : List ℕ → Layout
on image = layout_of (sized (length image))

-- 'the AID entry takes both': a record is of the card whose records have its version; one of no card's version is malformed on either
unfoldable pub versioned : ℕ → Card
versioned v = cond (eqb v large.version) Large Small

abbrev pub by : List ℕ → Layout
by rec = layout_of (versioned (get_or rec 2 0))

-- a call that returned r and left these bytes has this outcome
pub record Returned (o : Out) (r : ℕ) (left : List ℕ) : Type 0 where
  pub result : r ≡ packed o
  pub left_is : left ≡ o.bytes

-- card_check
abbrev pub Checked : List ℕ → ℕ → Type 0
Checked image r = Returned (check (on image) image) r image

-- card_empty
abbrev pub Emptied : List ℕ → ℕ → List ℕ → Type 0
Emptied lent r left = Returned (write_empty (on lent) lent) r left

-- a converter, from images by L to images by M
abbrev pub Carried : Layout → Layout → List ℕ → List ℕ → ℕ → List ℕ → Type 0
Carried L M old lent r left = Returned (convert L M old lent) r left

-- card_convert: an image of version 01, by R-7's rules, to one of version 02; card_enlarge: one of version 02 to the large card's
abbrev pub Converted : List ℕ → List ℕ → ℕ → List ℕ → Type 0
Converted = Carried narrow small

abbrev pub Enlarged : List ℕ → List ℕ → ℕ → List ℕ → Type 0
Enlarged = Carried small large

-- card_judge
abbrev pub Judged : List ℕ → List ℕ → ℕ → List ℕ → Type 0
Judged image rec r left = Returned (judge (on image) image rec) r left

-- card_read_out
abbrev pub ReadInto : List ℕ → ℕ → List ℕ → ℕ → List ℕ → Type 0
ReadInto image number lent r left = Returned (read_out (on image) image number lent) r left

-- card_aid
abbrev pub AidFound : List ℕ → ℕ → Type 0
AidFound rec r = r ≡ aid_place (first_aid (by rec) rec)

-- calls of card_judge, a record each, each on the image that the last one left
abbrev pub Calls : List ℕ → List (List ℕ) → List ℕ → List ℕ → Type 0
Calls image [] [] left = left ≡ image
Calls image [] (r ∷ rs) left = ⊥
Calls image (s ∷ ss) [] left = ⊥
Calls image (s ∷ ss) (r ∷ rs) left = (mid : List ℕ) × Judged image s r mid × Calls mid ss rs left
