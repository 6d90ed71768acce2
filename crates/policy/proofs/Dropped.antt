-- What kinds 2 and 4 share: services of one package go, and calls and needs on them are left behind as rows.
use Prim.Native.Nat.{ℕ}
use mathlib.Core.Path.{◌≡◌, sym, ap, ◌∙◌, subst}
use mathlib.Core.Logic.{◌⊎◌, inl, inr, ◌↔◌}
use mathlib.Core.Bool.{Bool, ◌&&◌}
use mathlib.Core.List.{List, [], ◌++◌}
use mathlib.Core.List.Memᴰ.{append_cases as in_append}
use mathlib.Core.List.Memᴰ.{append_left as in_left}
use mathlib.Core.List.Memᴰ.{append_right as in_right}
use mathlib.Core.List.Memᴰ.{cast as in_cast}
use mathlib.Core.List.Memᴰ.{not-nil as in_nil}
use mathlib.Core.List.{Memᴰ as In}
use lib.Dec.{T, eqb, eqb→eq}
use Rattle.policy.specs.Lists.{NoRepeat}
use Rattle.policy.specs.Contract.{Row, valid_aid}
use Rattle.policy.specs.Layout.{Layout}
use Rattle.policy.specs.Tables.{Tables, Unmet, no_tok}
use Rattle.policy.specs.Lookup.{service_at, wanted, places, numbers}
use Rattle.policy.specs.Draft.{call_row, left_by}
use Rattle.policy.proofs.Sets.{and_l, and_r, and_i, test, once_append, each_append, pairs_in, in_pairs, once_pairs, in_upto, once_upto}
use Rattle.policy.proofs.Equal.{eqb_of, row_path}
use Rattle.policy.proofs.Formed.{Names, Bits, Off, UnmetRows, WaitingRows, grant_bit, Formed, Lawful, RowAt, bit, row}
use Rattle.policy.proofs.Found.{same_place}
use Rattle.policy.proofs.Facts.{no_rows, bit_in, need_bits}

-- ---- what the bits of b on the services d of package j leave
module _ (L : Layout) (t : Tables) (names : Names L t.used t.aid t.tok t.provides) (j : ℕ) (d : ℕ → Bool)
    (b : ℕ → ℕ → ℕ → Bool) (bits : Bits t.used t.provides b) where
  pub left_in : {u : Unmet} → In u (left_by L t b j d) → (i : ℕ) × (k : ℕ) × T (b i j k) × T (d k) × (u ≡ call_row i (service_at t j k))
  left_in m =
      let p = pairs_in (λ i k. call_row i (service_at t j k)) (λ i k. b i j k && d k) (places L) (numbers L) m in
      (p.0, p.1, and_l (b p.0 j p.1) (d p.1) p.2, and_r (b p.0 j p.1) (d p.1) p.2, p.3)

  pub in_left_by : (i k : ℕ) → T (b i j k) → T (d k) → In (call_row i (service_at t j k)) (left_by L t b j d)
  in_left_by i k h g =
      let l = bit_in L t names bits i j k h in
      in_pairs (λ i k. call_row i (service_at t j k)) (λ i k. b i j k && d k) (places L) (numbers L) i k
      (in_upto L.packages i l.0) (in_upto L.services k l.2)
      (and_i (b i j k) (d k) h g)

  pub once_left : NoRepeat (left_by L t b j d)
  once_left =
      once_pairs (λ i k. call_row i (service_at t j k)) (λ i k. b i j k && d k) (places L) (numbers L) (once_upto L.services) (once_upto L.packages)
      (λ i k i' k' h g e. (
        ap (λ (u : Unmet). u.caller) e,
        names.tok_inj j k k' (bits.of_prov i j k (and_l (b i j k) (d k) h)) (bits.of_prov i' j k' (and_l (b i' j k') (d k') g)) (ap (λ (u : Unmet). u.tok) e),
      ))

-- ---- t' is t without the services d of package j: no other service goes, and no package but j
pub record Without (t t' : Tables) (j : ℕ) (d : ℕ → Bool) : Type 0 where
  pub used_old : (n : ℕ) → T (t'.used n) → T (t.used n)
  pub used_stays : (n : ℕ) → T (t.used n) → (n ≡ j → ⊥) → T (t'.used n)
  pub prov_old : (y z : ℕ) → T (t'.provides y z) → T (t.provides y z)
  pub prov_gone : (y z : ℕ) → T (t'.provides y z) → y ≡ j → T (d z) → ⊥
  pub prov_stays : (y z : ℕ) → T (t.provides y z) → (y ≡ j → T (d z) → ⊥) → T (t'.provides y z)
  pub prov_used : (y z : ℕ) → T (t'.provides y z) → T (t'.used y)
  pub aid_same : (n : ℕ) → T (t'.used n) → t'.aid n ≡ t.aid n
  pub tok_same : (y z : ℕ) → T (t'.provides y z) → t'.tok y z ≡ t.tok y z
  pub aid_blank : (n : ℕ) → (T (t'.used n) → ⊥) → t'.aid n ≡ []
  pub tok_blank : (y z : ℕ) → (T (t'.provides y z) → ⊥) → t'.tok y z ≡ no_tok

-- the bits b' are those of b by packages that stay, on services that stay
pub record BitsStay (t' : Tables) (j : ℕ) (d : ℕ → Bool) (b b' : ℕ → ℕ → ℕ → Bool) : Type 0 where
  pub old : (x y z : ℕ) → T (b' x y z) → T (b x y z)
  pub used : (x y z : ℕ) → T (b' x y z) → T (t'.used x)
  pub gone : (x y z : ℕ) → T (b' x y z) → y ≡ j → T (d z) → ⊥
  pub stays : (x y z : ℕ) → T (b x y z) → T (t'.used x) → (y ≡ j → T (d z) → ⊥) → T (b' x y z)

-- the rows m are those of l by packages that stay
pub record RowsStay (t' : Tables) (l m : List Unmet) : Type 0 where
  pub old : (u : Unmet) → In u m → In u l
  pub used : (u : Unmet) → In u m → T (t'.used u.caller)
  pub stays : (u : Unmet) → In u l → T (t'.used u.caller) → In u m
  pub once : NoRepeat m

-- all of it: what a kind has to show of its tables
pub record Dropping (L : Layout) (t t' : Tables) (j : ℕ) (d : ℕ → Bool) (m : List Unmet) : Type 0 where
  pub without : Without t t' j d
  pub calls_stay : BitsStay t' j d t.calls t'.calls
  pub grants_stay : BitsStay t' j d (grant_bit t) (grant_bit t')
  pub needs_stay : BitsStay t' j d t.needs t'.needs
  pub unmet_stay : RowsStay t' t.unmet m
  pub unmet_is : t'.unmet ≡ m ++ left_by L t t.calls j d
  pub waiting : WaitingRows t'.used t'.aid t'.tok t'.provides t'.waiting

none_stay : (t' : Tables) → RowsStay t' [] []
none_stay t' = record { old = λ u m. m; used = λ u m. absurd (in_nil m); stays = λ u m _. m; once = tt }

module _ (L : Layout) (t t' : Tables) (names : Names L t.used t.aid t.tok t.provides) (j : ℕ) (d : ℕ → Bool) (w : Without t t' j d) where
  names_without : Names L t'.used t'.aid t'.tok t'.provides
  names_without = record {
    used_lt = λ n u. names.used_lt n (w.used_old n u);
    prov_lt = λ y z p. names.prov_lt y z (w.prov_old y z p);
    prov_used = w.prov_used;
    aid_valid = λ n u. rw (w.aid_same n u) (names.aid_valid n (w.used_old n u));
    aid_blank = w.aid_blank;
    tok_blank = w.tok_blank;
    aid_inj = λ i n u v e. names.aid_inj i n (w.used_old i u) (w.used_old n v) (sym (w.aid_same i u) ∙ e ∙ w.aid_same n v);
    tok_inj = λ y z z' p q e. names.tok_inj y z z' (w.prov_old y z p) (w.prov_old y z' q) (sym (w.tok_same y z p) ∙ e ∙ w.tok_same y z' q);
  }

  service_same : (y z : ℕ) → T (t'.provides y z) → service_at t' y z ≡ service_at t y z
  service_same y z p = row_path (w.aid_same y (w.prov_used y z p)) (w.tok_same y z p)

  module _ (b : ℕ → ℕ → ℕ → Bool) (bits : Bits t.used t.provides b) where
    caller_stays : (i k : ℕ) → T (b i j k) → T (t'.used i)
    caller_stays i k h = w.used_stays i (bits.by_used i j k h) (bits.other i j k h)

    module _ (b' : ℕ → ℕ → ℕ → Bool) (bs : BitsStay t' j d b b') where
      bit_prov : (x y z : ℕ) → T (b' x y z) → T (t'.provides y z)
      bit_prov x y z h = w.prov_stays y z (bits.of_prov x y z (bs.old x y z h)) (bs.gone x y z h)

      bits_without_lem : Bits t'.used t'.provides b'
      bits_without_lem = record {
        by_used = bs.used;
        of_prov = bit_prov;
        other = λ x y z h. bits.other x y z (bs.old x y z h);
      }

    -- ---- the rows after the change: old ones by packages that stay, and what the dropped bits leave
    module _ (l m : List Unmet) (rs : RowsStay t' l m) where
      abbrev rows' : List Unmet
      rows' = m ++ left_by L t b j d

      each_row : {P : Unmet → Type 0} → ((u : Unmet) → In u m → P u) → ((i k : ℕ) → T (b i j k) → T (d k) → P (call_row i (service_at t j k))) → (u : Unmet) → In u rows' → P u
      each_row {P} f g = each_append {P = P} m (left_by L t b j d) f (λ u h. let p = left_in L t names j d b bits h in subst P (sym p.4) (g p.0 p.1 p.2 p.3))

      off_without : Off t.used t.aid t.tok t.provides l → Off t'.used t'.aid t'.tok t'.provides rows'
      off_without off = record {
        off_used = each_row {P = λ u. T (t'.used u.caller)} rs.used (λ i k h _. caller_stays i k h);
        off_card = each_row {P = λ u. (y z : ℕ) → T (t'.provides y z) → t'.aid y ≡ u.callee → t'.tok y z ≡ u.tok → ⊥}
            (λ u h y z p e f. off.off_card u (rs.old u h) y z (w.prov_old y z p) (sym (w.aid_same y (w.prov_used y z p)) ∙ e) (sym (w.tok_same y z p) ∙ f))
            (λ i k h g y z p e f.
            let q = same_place L t names y z j k (w.prov_old y z p) (bits.of_prov i j k h) (sym (w.aid_same y (w.prov_used y z p)) ∙ e) (sym (w.tok_same y z p) ∙ f) in
            w.prov_gone y z p q.0 (subst (λ (x : ℕ). T (d x)) (sym q.1) g));
      }

      unmet_without : UnmetRows t.used t.aid t.tok t.provides l → UnmetRows t'.used t'.aid t'.tok t'.provides rows'
      unmet_without old = record {
        off = off_without old.off;
        unmet_valid = each_row {P = λ u. T (valid_aid u.callee)} (λ u h. old.unmet_valid u (rs.old u h))
            (λ i k h _. names.aid_valid j (names.prov_used j k (bits.of_prov i j k h)));
        unmet_other = each_row {P = λ u. u.callee ≡ t'.aid u.caller → ⊥}
            (λ u h e. old.unmet_other u (rs.old u h) (e ∙ w.aid_same u.caller (rs.used u h)))
            (λ i k h _ e. bits.other i j k h
            (names.aid_inj i j (bits.by_used i j k h) (names.prov_used j k (bits.of_prov i j k h)) (sym (e ∙ w.aid_same i (caller_stays i k h)))));
        unmet_once = once_append m (left_by L t b j d) rs.once (once_left L t names j d b bits) (λ u h g.
            let p = left_in L t names j d b bits g in
            old.off.off_card u (rs.old u h) j p.1 (bits.of_prov p.0 j p.1 p.2) (sym (ap (λ (v : Unmet). v.callee) p.4)) (sym (ap (λ (v : Unmet). v.tok) p.4)));
      }

      -- calls or needs of a package that stays: a bit on a dropped service is a row
      module _ (b' : ℕ → ℕ → ℕ → Bool) (bs : BitsStay t' j d b b') (n : ℕ) (un : T (t'.used n)) (r : Row) where
        row_stays : RowAt t b l n r → RowAt t' b' rows' n r
        row_stays (bit y z h e) = go (test (eqb y j && d z))
          where
            go : T (eqb y j && d z) ⊎ (T (eqb y j && d z) → ⊥) → RowAt t' b' rows' n r
            go (inl g) =
                let ey = eqb→eq y j (and_l (eqb y j) (d z) g) in
                row (in_right m (in_cast (λ i. call_row n ((e ∙ ap (λ (x : ℕ). service_at t x z) ey) i))
                (in_left_by L t names j d b bits n z (subst (λ (x : ℕ). T (b n x z)) ey h) (and_r (eqb y j) (d z) g))))
            go (inr g) =
                let h' = bs.stays n y z h un (λ f k. g (and_i (eqb y j) (d z) (eqb_of f) k)) in
                bit y z h' (e ∙ sym (service_same y z (bit_prov b' bs n y z h')))
        row_stays (row h) = row (in_left (left_by L t b j d) (rs.stays (call_row n r) h un))

        row_old : RowAt t' b' rows' n r → RowAt t b l n r
        row_old (bit y z h e) = bit y z (bs.old n y z h) (e ∙ service_same y z (bit_prov b' bs n y z h))
        row_old (row h) = go (in_append m h)
          where
            go : In (call_row n r) m ⊎ In (call_row n r) (left_by L t b j d) → RowAt t b l n r
            go (inl g) = row (rs.old (call_row n r) g)
            go (inr g) =
                let p = left_in L t names j d b bits g in
                bit j p.1 (subst (λ (x : ℕ). T (b x j p.1)) (sym (ap (λ (u : Unmet). u.caller) p.4)) p.2) (ap (λ (u : Unmet). wanted u) p.4)

module _ (L : Layout) (t t' : Tables) (j : ℕ) (d : ℕ → Bool) (m : List Unmet) (fm : Formed L t) (dr : Dropping L t t' j d m) where
  pub formed_dropped : Formed L t'
  formed_dropped = record {
    names = names_without L t t' fm.names j d dr.without;
    calls = bits_without_lem L t t' fm.names j d dr.without t.calls fm.calls t'.calls dr.calls_stay;
    grants = bits_without_lem L t t' fm.names j d dr.without (grant_bit t) fm.grants (grant_bit t') dr.grants_stay;
    need_call = λ x y z h.
        dr.calls_stay.stays x y z (fm.need_call x y z (dr.needs_stay.old x y z h)) (dr.needs_stay.used x y z h) (dr.needs_stay.gone x y z h);
    unmet = subst (UnmetRows t'.used t'.aid t'.tok t'.provides) (sym dr.unmet_is)
        (unmet_without L t t' fm.names j d dr.without t.calls fm.calls t.unmet m dr.unmet_stay fm.unmet);
    waiting = dr.waiting;
  }

  pub lost_dropped : Off t'.used t'.aid t'.tok t'.provides (left_by L t t.needs j d)
  lost_dropped = off_without L t t' fm.names j d dr.without t.needs (need_bits L t fm) [] [] (none_stay t') (no_rows t)

  -- ---- the contract of a package that stays
  pub calls_dropped : (n : ℕ) → T (t'.used n) → (r : Row) → RowAt t t.calls t.unmet n r ↔ RowAt t' t'.calls t'.unmet n r
  calls_dropped n u r = subst (λ (x : List Unmet). RowAt t t.calls t.unmet n r ↔ RowAt t' t'.calls x n r) (sym dr.unmet_is) (
    row_stays L t t' fm.names j d dr.without t.calls fm.calls t.unmet m dr.unmet_stay t'.calls dr.calls_stay n u r,
    row_old L t t' fm.names j d dr.without t.calls fm.calls t.unmet m dr.unmet_stay t'.calls dr.calls_stay n u r,
  )

  pub needs_dropped : (n : ℕ) → T (t'.used n) → (r : Row) → RowAt t t.needs [] n r ↔ RowAt t' t'.needs (left_by L t t.needs j d) n r
  needs_dropped n u r = (
    row_stays L t t' fm.names j d dr.without t.needs (need_bits L t fm) [] [] (none_stay t') t'.needs dr.needs_stay n u r,
    row_old L t t' fm.names j d dr.without t.needs (need_bits L t fm) [] [] (none_stay t') t'.needs dr.needs_stay n u r,
  )

  pub lawful_dropped : Lawful t → Lawful t'
  lawful_dropped law x y z h =
      dr.grants_stay.stays x y z (law x y z (dr.calls_stay.old x y z h)) (dr.calls_stay.used x y z h) (dr.calls_stay.gone x y z h)
