-- Document 01's session, computed: its four records print its four lines; and the frames at the edges. Assumes nothing.
use Prim.Native.Nat.{ℕ}
use mathlib.Core.Path.{◌≡◌, refl}
use mathlib.Core.List.{List, [], ◌∷◌, ◌++◌}
use Rattle.policy.specs.Marked.{load_h, load_b, load_c, remove_h}
use Rattle.policy.specs.Record.{parse, proper}
use Rattle.policy.specs.Tables.{decode, encode, empty_image}
use Rattle.policy.specs.Sound.{sound}
use Rattle.policy.specs.Lookup.{number_of, free_number, free_service, contract_at}
use Rattle.policy.specs.Draft.{look, draft, number_for}
use Rattle.policy.specs.Judge.{judge}
use Rattle.std.specs.Prelude.{Some, None}
use Rattle.lines.specs.Lines.{digits}
use Rattle.lines.specs.Frames.{announced, session}
use Rattle.lines.specs.Session.{printed}

-- 1 1 0 0, 2 1 8 -, 3 1 0 1, 4 2 9 -
abbrev four_lines : List ℕ
four_lines =
    49 ∷ 32 ∷ 49 ∷ 32 ∷ 48 ∷ 32 ∷ 48 ∷ 10
    ∷ 50 ∷ 32 ∷ 49 ∷ 32 ∷ 56 ∷ 32 ∷ 45 ∷ 10
    ∷ 51 ∷ 32 ∷ 49 ∷ 32 ∷ 48 ∷ 32 ∷ 49 ∷ 10
    ∷ 52 ∷ 32 ∷ 50 ∷ 32 ∷ 57 ∷ 32 ∷ 45 ∷ 10
    ∷ []

pub paper_session : printed (load_h ++ (load_b ++ (load_c ++ remove_h))) ≡ four_lines
unfolding printed session digits judge sound parse proper decode encode empty_image number_of free_number free_service contract_at draft look number_for
paper_session = refl

-- 1 - 2 -
abbrev one_bad : List ℕ
one_bad = 49 ∷ 32 ∷ 45 ∷ 32 ∷ 50 ∷ 32 ∷ 45 ∷ 10 ∷ []

-- no bytes; a single byte; a length of 3; a length past the end; a record of an unknown kind, 99, and a byte behind it
pub edges :
    (printed [] ≡ [])
    × (printed (0 ∷ []) ≡ one_bad)
    × (printed (0 ∷ 3 ∷ 1 ∷ []) ≡ one_bad)
    × (printed (0 ∷ 5 ∷ 1 ∷ 1 ∷ []) ≡ one_bad)
    × (printed (0 ∷ 4 ∷ 1 ∷ 99 ∷ 0 ∷ []) ≡ 49 ∷ 32 ∷ 57 ∷ 57 ∷ 32 ∷ 50 ∷ 32 ∷ 45 ∷ 10 ∷ 50 ∷ 32 ∷ 45 ∷ 32 ∷ 50 ∷ 32 ∷ 45 ∷ 10 ∷ [])
unfolding printed session digits judge sound parse proper decode encode empty_image number_of free_number free_service contract_at draft look number_for
edges = (refl, refl, refl, refl, refl)

-- lengths of 3, 4, 4,145 and 4,146
pub lengths : (announced 0 3 ≡ None) × (announced 0 4 ≡ Some 4) × (announced 16 49 ≡ Some 4145) × (announced 16 50 ≡ None)
lengths = (refl, refl, refl, refl)
