-- R-6: records of others about rows among themselves.
use Prim.Native.Nat.{ℕ, ◌<◌}
use mathlib.Core.Path.{◌≡◌, refl, sym, ap, ◌∙◌, subst}
use mathlib.Core.Logic.Iff
use mathlib.Core.Logic.{◌⊎◌, inl, inr, ⊎_elim}
use mathlib.Core.Bool.{Bool, true, false, not, cond}
use mathlib.Core.List.{List, [], ◌∷◌, ◌++◌}
use mathlib.Core.List.Memᴰ.{head as here}
use mathlib.Core.List.Memᴰ.{tail as there}
use mathlib.Core.List.{Memᴰ as In}
use mathlib.Core.List.Memᴰ.{append_cases as in_append}
use mathlib.Core.List.Memᴰ.{append_left as in_left}
use mathlib.Core.List.Memᴰ.{append_right as in_right}
use mathlib.Core.Option.{Option, none, some}
use lib.Dec.{T}
use Rattle.policy.specs.Lists.{SameSet, from, keep}
use Rattle.policy.specs.Contract.{Aid, eq_aid, Row, eq_row, Contract}
use Rattle.policy.specs.Layout.{Layout, LayoutOk}
use Rattle.policy.specs.Record.{Request, Change, add_call, remove_call, add_grant, remove_grant, add_need, remove_need, parse}
use Rattle.policy.specs.Machine.{without_row, altered, alter, effect}
use Rattle.policy.specs.Tables.{Tables, decode}
use Rattle.policy.specs.Lookup.{contract_at}
use Rattle.policy.specs.Sound.{sound}
use Rattle.policy.specs.Judge.{Out, judge}
use Rattle.policy.specs.History.{SameContract, StandsFor, image_after}
use Rattle.policy.specs.Claims.{RefusesWith}
use Rattle.policy.proofs.Sets.{T_eq, or_e, not_i, each_cons, each_one, keep_in, in_keep, in_map, map_in}
use Rattle.policy.proofs.Equal.{eq_aid→, eq_row→}
use Rattle.policy.proofs.Theorems.{sound_stands, accepted_contracts}
use Rattle.policy.proofs.Entries.{answers_always}
use Rattle.policy.proofs.Settled.{judge_malformed}
use Rattle.policy.proofs.Placing.{placing}
use Rattle.noninterference.specs.Alike.{at_end, seen_by}
use Rattle.noninterference.specs.Claims.{Besides, AmongOthers, Unseen}
use Rattle.noninterference.proofs.Agree.{same_refl, same_sym, same_trans, Agrees}
use Rattle.noninterference.proofs.Card.{contract_at_lem}
use Rattle.noninterference.proofs.Effect.{same_agrees}

-- ---- a row that is not asked for comes, or goes
module _ (f : Row → Bool) (r : Row) (off : T (f r) → ⊥) where
  come : (l : List Row) → SameSet (keep f l) (keep f (l ++ (r ∷ [])))
  come l x = (λ h. let (m, t) = keep_in f l h in in_keep f (in_left (r ∷ []) m) t, λ h. let (m, t) = keep_in f (l ++ (r ∷ [])) h in go t (in_append l m))
    where
      go : T (f x) → In x l ⊎ In x (r ∷ []) → In x (keep f l)
      go t (inl m) = in_keep f m t
      go t (inr m) = absurd (off (subst (λ (z : Row). T (f z)) (each_one (λ z. z ≡ r) r refl x m) t))

  gone : (l : List Row) → SameSet (keep f l) (keep f (without_row r l))
  gone l x = (
    λ h. let (m, t) = keep_in f l h in in_keep f (in_keep (λ y. not (eq_row r y)) m (not_i (eq_row r x) (λ e. off (subst (λ (z : Row). T (f z)) (sym (eq_row→ r x e)) t)))) t,
    λ h. let (m, t) = keep_in f (without_row r l) h in in_keep f (keep_in (λ y. not (eq_row r y)) l m).0 t,
  )

module _ (L : Layout) (b : Aid) where
  -- what such a change makes: one contract is altered, and agrees with what it was
  record Moves (ch : Change) : Type 0 where
    alters : (a : Aid) (cs : List Contract) → effect L cs a ch ≡ alter a (altered L ch) cs
    agrees : (k : Contract) → (k.aid ≡ b → ⊥) → Agrees b k (altered L ch k)

  moves : (ch : Change) → Besides b ch → Moves ch
  moves ch (r, n, m) =
      each_cons Moves (add_call r) _ (record { alters = λ a cs. refl; agrees = λ k ne. record { aid = refl; provides = λ x. Iff.rfl; calls = came k ne k.calls; grants = λ x. Iff.rfl; needs = λ x. Iff.rfl } })
      (each_cons Moves (remove_call r) _ (record { alters = λ a cs. refl; agrees = λ k ne. record { aid = refl; provides = λ x. Iff.rfl; calls = went k ne k.calls; grants = λ x. Iff.rfl; needs = went k ne k.needs } })
      (each_cons Moves (add_grant r) _ (record { alters = λ a cs. refl; agrees = λ k ne. record { aid = refl; provides = λ x. Iff.rfl; calls = λ x. Iff.rfl; grants = came k ne k.grants; needs = λ x. Iff.rfl } })
      (each_cons Moves (remove_grant r) _ (record { alters = λ a cs. refl; agrees = λ k ne. record { aid = refl; provides = λ x. Iff.rfl; calls = λ x. Iff.rfl; grants = went k ne k.grants; needs = λ x. Iff.rfl } })
      (each_cons Moves (add_need r) _ (record { alters = λ a cs. refl; agrees = λ k ne. record { aid = refl; provides = λ x. Iff.rfl; calls = λ x. Iff.rfl; grants = λ x. Iff.rfl; needs = came k ne k.needs } })
      (each_one Moves (remove_need r) (record { alters = λ a cs. refl; agrees = λ k ne. record { aid = refl; provides = λ x. Iff.rfl; calls = λ x. Iff.rfl; grants = λ x. Iff.rfl; needs = went k ne k.needs } })))))) ch m
    where
      off : (k : Contract) → (k.aid ≡ b → ⊥) → T (at_end b k r) → ⊥
      off k ne t = ⊎_elim (λ x. ne (eq_aid→ k.aid b x)) (λ x. n (eq_aid→ r.aid b x)) (or_e (eq_aid k.aid b) (eq_aid r.aid b) t)

      came : (k : Contract) → (k.aid ≡ b → ⊥) → (l : List Row) → SameSet (keep (at_end b k) l) (keep (at_end b k) (l ++ (r ∷ [])))
      came k ne = come (at_end b k) r (off k ne)

      went : (k : Contract) → (k.aid ≡ b → ⊥) → (l : List Row) → SameSet (keep (at_end b k) l) (keep (at_end b k) (without_row r l))
      went k ne = gone (at_end b k) r (off k ne)

  -- all of `Alike` but the list counts
  record Kept (img₁ img₂ : List ℕ) : Type 0 where
    is_sound : T (sound L img₂)
    used : (n : ℕ) → (decode L img₁).used n ≡ (decode L img₂).used n
    contracts : (n : ℕ) → T ((decode L img₁).used n) → Agrees b (contract_at L (decode L img₁) n) (contract_at L (decode L img₂) n)

  stays : (img : List ℕ) → T (sound L img) → Kept img img
  stays img ok = record { is_sound = ok; used = λ n. refl; contracts = λ n u. same_refl (seen_by b (contract_at L (decode L img) n)) }

  module _ (lo : LayoutOk L) (img s : List ℕ) (ok : T (sound L img)) where
    abbrev t : Tables
    t = decode L img

    abbrev left : Tables
    left = decode L (judge L img s).bytes

    module _ (q : Request) (e : parse L s ≡ some q) (z : (judge L img s).answered ≡ 0) (ne : q.aid ≡ b → ⊥) (h : Besides b q.change) (cs : List Contract) (f : StandsFor L img cs) where
      abbrev turned : Contract → Contract
      turned k = cond (eq_aid k.aid q.aid) (altered L q.change k) k

      turned_agrees : (k : Contract) → Agrees b k (turned k)
      turned_agrees k = go (eq_aid k.aid q.aid) (λ x. (moves q.change h).agrees k (λ y. ne (sym (eq_aid→ k.aid q.aid x) ∙ y)))
        where
          go : (x : Bool) → (T x → Agrees b k (altered L q.change k)) → Agrees b k (cond x (altered L q.change k) k)
          go true g = g tt
          go false g = same_refl (seen_by b k)

      left_stands : StandsFor L (judge L img s).bytes (alter q.aid (altered L q.change) cs)
      left_stands = subst (λ (ds : List Contract). StandsFor L (judge L img s).bytes ds) ((moves q.change h).alters q.aid cs) (accepted_contracts L lo img s cs q f e z)

      -- packages keep their numbers
      stay : (m n : ℕ) → T (t.used m) → T (left.used n) → t.aid m ≡ left.aid n → m ≡ n
      stay m n um un = ((placing L lo img s q ok e z).packages_stay m n um un).0

      to : (n : ℕ) → T (t.used n) → T (left.used n) × Agrees b (contract_at L t n) (contract_at L left n)
      unfolding contract_at
      to n u =
          let (c, mc, at) = contract_at_lem L img cs f n u in
          let (m, um, at') = left_stands.these (turned c) (in_map turned mc) in
          let same = stay n m u um (sym at.aid ∙ (turned_agrees c).aid ∙ at'.aid) in (
            subst (λ (k : ℕ). T (left.used k)) (sym same) um,
            same_trans (same_sym (same_agrees b c (contract_at L t n) at))
                (same_trans (turned_agrees c) (same_agrees b (turned c) (contract_at L left n) (subst (λ (k : ℕ). SameContract (turned c) (contract_at L left k)) (sym same) at'))),
          )

      back : (n : ℕ) → T (left.used n) → T (t.used n)
      unfolding contract_at
      back n u =
          let (d, md, at) = contract_at_lem L (judge L img s).bytes (alter q.aid (altered L q.change) cs) left_stands n u in
          let (c, mc, is) = map_in turned cs md in
          let (m, um, at') = f.these c mc in
          subst (λ (k : ℕ). T (t.used k)) (stay m n um u (sym at'.aid ∙ (turned_agrees c).aid ∙ ap (λ (k : Contract). k.aid) (sym is) ∙ at.aid)) um

      kept : Kept img (judge L img s).bytes
      kept = record { is_sound = left_stands.is_sound; used = λ n. T_eq (t.used n) (left.used n) (λ u. (to n u).0) (back n); contracts = λ n u. (to n u).1 }

    one : AmongOthers L b s → Kept img (judge L img s).bytes
    one among = go ((answers_always L).judging img s) (parse L s) refl
      where
        go : (((judge L img s).answered ≡ 0) × ((judge L img s).second < L.packages)) ⊎ RefusesWith (from 1 11) 255 img (judge L img s) → (o : Option Request) → parse L s ≡ o → Kept img (judge L img s).bytes
        go (inr (_, _, e)) o p = subst (λ (o : Out). Kept img o.bytes) (sym e) (stays img ok)
        go (inl _) none p = subst (λ (o : Out). Kept img o.bytes) (sym (judge_malformed L img s ok p)) (stays img ok)
        go (inl (z, _)) (some q) p = let (cs, f) = sound_stands L lo img ok in kept q p z (among q p).0 (among q p).1 cs f

  many : LayoutOk L → (img : List ℕ) (ss : List (List ℕ)) → T (sound L img) → ((s : List ℕ) → In s ss → AmongOthers L b s) → Kept img (image_after L img ss)
  unfolding image_after
  many lo img [] ok among = stays img ok
  many lo img (s ∷ ss) ok among =
      let x = one lo img s ok (among s (here refl)) in
      let y = many lo (judge L img s).bytes ss x.is_sound (λ z m. among z (there m)) in
      record { is_sound = y.is_sound; used = λ n. x.used n ∙ y.used n; contracts = λ n u. same_trans (x.contracts n u) (y.contracts n (subst T (x.used n) u)) }

pub unseen : (L : Layout) → LayoutOk L → Unseen L
unseen L lo b img₁ img₂ ss₁ ss₂ al among unmet waiting =
    let k₁ = many L b lo img₁ ss₁ al.sound₁ (λ s m. among s (in_left ss₂ m)) in
    let k₂ = many L b lo img₂ ss₂ al.sound₂ (λ s m. among s (in_right ss₁ m)) in
    record {
      sound₁ = k₁.is_sound;
      sound₂ = k₂.is_sound;
      used = λ n. sym (k₁.used n) ∙ al.used n ∙ k₂.used n;
      contracts = λ n u.
          let u₁ = subst T (sym (k₁.used n)) u in
          same_trans (same_sym (k₁.contracts n u₁)) (same_trans (al.contracts n u₁) (k₂.contracts n (subst T (al.used n) u₁)));
      unmet_count = unmet;
      waiting_count = waiting;
    }
