-- The plan of kind 3 by what its searches and checks found. Assumes nothing.
use Prim.Native.Nat.{ℕ, ◌+◌, ◌≤◌}
use mathlib.Core.Path.{◌≡◌, sym, ap, ◌∙◌, subst}
use mathlib.Core.Bool.{Bool, true, false, not, ◌&&◌, cond}
use mathlib.Core.List.{List}
use lib.Dec.{T, leb}
use lib.ListN.{length}
use Rattle.policy.specs.Lists.{every}
use Rattle.policy.specs.Contract.{Aid, Tok}
use Rattle.policy.specs.Layout.{Layout}
use Rattle.policy.specs.Tables.{Tables, Unmet, Waiting, decode}
use Rattle.policy.specs.Lookup.{number_of}
use Rattle.policy.specs.Sound.{sound}
use Rattle.policy.specs.Draft.{installed_aid, now_granted, asks_for}
use Rattle.policy.specs.ShortCheck.{count, short_add_service}
use Rattle.policy.proofs.Formed.{Formed}
use Rattle.policy.proofs.Found.{NumberIs, number_is}
use Rattle.policy.proofs.SoundFacts.{sound_formed, sound_fitting}
use Rattle.geometry.specs.declared.Kept.TheVariants.{WaitingGrants}
use Rattle.image.specs.Read.{mask_of}
use Rattle.changes.specs.Joins.{room_after}
use Rattle.changes.proofs.ListRoom.{room_beside}
use Rattle.services.specs.Adding.{of_service, is_lone, by_callers, ask_mask, due_mask, adding_at}
use Rattle.services.specs.declared.adding.Adding.{Adding}
use Rattle.services.specs.declared.adding.Service.{Service}
use Rattle.std.specs.Prelude.{Result, Ok, Err, Some, Option as Answer}
use Rattle.answers.specs.declared.Refusal.{Refusal}
use Rattle.answers.specs.declared.Refusal.TheVariants.{Ungranted, WaitingFull}
use Rattle.geometry.specs.Geometry.{tok_of}
use Rattle.image.specs.Read.{found}
use Rattle.image.proofs.LaidImage.{found_some}
use Rattle.services.proofs.Added.Tables.{granted_is, room_is}

-- the AID of the package that was found
pub own_aid : (L : Layout) (img : List ℕ) (a : Aid) → T (sound L img) → {r : Answer ℕ} {j : ℕ} → r ≡ found (number_of L (decode L img) a) → r ≡ Some j → (decode L img).aid j ≡ a
own_aid L img a ok p h =
    let t = decode L img in
    (subst (NumberIs t a) (found_some (number_of L t a) _ p h) (number_is L t (sound_formed L img ok).names a)).1

-- ---- the checks, of the new service p
module _ (L : Layout) (img : List ℕ) (ok : T (sound L img)) (p : Service) (l : List Aid) (asking granting due : ℕ) (a : Aid) (own : (decode L img).aid p.provider ≡ a) (ea : asking ≡ mask_of (asks_for L (decode L img) a (tok_of p.tokens)) (decode L img).unmet)
    (eg : granting ≡ mask_of (of_service p.provider (tok_of p.tokens)) (decode L img).waiting)
    (ed : (f : Waiting → Bool) → granting ≡ mask_of f (decode L img).waiting → due ≡ mask_of (λ w. f w && installed_aid L (decode L img) w.caller) (decode L img).waiting)
    (b : Bool) (eb : (f : Unmet → Bool) → asking ≡ mask_of f (decode L img).unmet → b ≡ every (by_callers L (decode L img) l due f) (decode L img).unmet) where
  abbrev t : Tables
  t = decode L img

  abbrev j : ℕ
  j = p.provider

  abbrev s : Tok
  s = tok_of p.tokens

  formed : Formed L t
  formed = sound_formed L img ok

  due_is : due ≡ due_mask L t s j
  due_is = ed (of_service j s) eg

  ask_is : asking ≡ ask_mask L t s j
  ask_is = ea ∙ ap (λ (b : Aid). mask_of (asks_for L (decode L img) b s) t.unmet) (sym own)

  abbrev by_look : Bool → Bool → ℕ → ℕ → Result Adding Refusal
  by_look g f m d = cond g (cond f (Ok (record { service = p; met = m; due = d })) (Err WaitingFull)) (Err Ungranted)

  rights_are : b ≡ (short_add_service L t j s l).granted
  rights_are = eb (asks_for L (decode L img) (t.aid j) s) ask_is ∙ granted_is L t formed j s due due_is l

  pub lists_ungranted : b ≡ false → Err Ungranted ≡ adding_at L (decode L img) p.tokens l p.provider p.number
  lists_ungranted h = ap (λ (g : Bool). by_look g (short_add_service L t j s l).waiting_fits (ask_mask L t s j) (due_mask L t s j)) (sym h ∙ rights_are)

  module _ (h : b ≡ true) (room : ℕ) (er : room ≡ room_after L WaitingGrants due (decode L img)) (low : length (decode L img).waiting ≤ 32)
      (d : Bool) (x : d ≡ leb (count (is_lone L granting (decode L img)) l) room) where
    room_so : d ≡ (short_add_service L t j s l).waiting_fits
    room_so = x ∙ room_is L t formed j s l granting room eg (ap (λ (n : ℕ). count (λ w. not (now_granted L t j s w)) t.waiting + n) er
        ∙ room_beside (now_granted L t j s) t.waiting due L.capacity low (sound_fitting L img ok).waiting_fits due_is)

    at_look : (e : Bool) → d ≡ e → by_look true e asking due ≡ adding_at L t p.tokens l j p.number
    at_look e q = λ i. by_look ((sym h ∙ rights_are) i) ((sym q ∙ room_so) i) (ask_is i) (due_is i)

    pub lists_crowded : d ≡ false → Err WaitingFull ≡ adding_at L (decode L img) p.tokens l p.provider p.number
    lists_crowded y = at_look false y

    pub lists_add : d ≡ true → Ok (record { service = p; met = asking; due = due }) ≡ adding_at L (decode L img) p.tokens l p.provider p.number
    lists_add y = at_look true y
