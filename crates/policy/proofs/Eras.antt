-- Changes of the rules: the passage of an image, and histories over any number of changes.
use Prim.Native.Nat.{ℕ, ◌-◌, ◌≤◌}
use native.Mathlib.Omega.{arith}
use native.Mathlib.Nat.{le_trans}
use mathlib.Core.Path.{◌≡◌, refl, sym, ap, ◌∙◌, subst}
use mathlib.Core.Bool.{Bool, ◌&&◌}
use mathlib.Core.List.{List, [], ◌∷◌, ◌++◌}
use lib.Dec.{T, eqb, eqb→eq}
use lib.ListN.{length, take, drop}
use lib.Seq.{take_at, drop_at}
use Rattle.policy.specs.Contract.{Contract}
use Rattle.policy.specs.Layout.{Layout, LayoutOk, waiting_size, waiting_at, size}
use Rattle.policy.specs.Machine.{machine}
use Rattle.policy.specs.Tables.{Tables, write_waiting, write_list, decode, encode}
use Rattle.policy.specs.Sound.{sound}
use Rattle.policy.specs.Judge.{Out, refusal, judge, check, read_out_tables, read_out}
use Rattle.policy.specs.History.{AllAllowed, StandsFor, answers, image_after, machine_answers, contracts_after}
use Rattle.policy.specs.Claims.{CallsGranted, NeedsPresent}
use Rattle.policy.specs.Eras.{carried, Widens, SameBytes, Era, last_rules, answers_over, image_over, machine_answers_over, contracts_over, AllPass, HistoryFrom}
use Rattle.policy.specs.Eras.{convert, Passage, LeftOut, RefusedAll, Stays, Converts}
use Rattle.policy.proofs.Sets.{and_l, and_r, and_i, cond_true, cond_false}
use Rattle.policy.proofs.Equal.{eqb_of}
use Rattle.policy.proofs.Formed.{Formed, Fitting, Stands}
use Rattle.policy.proofs.LawfulCard.{calls_granted_lem, needs_present}
use Rattle.policy.proofs.RoundTrip.{formed_room, front, front_encode, length_front, round_trip}
use Rattle.policy.proofs.SoundFacts.{sound_written, sound_formed, sound_ruled, sound_lawful, sound_fitting}
use Rattle.policy.proofs.Ruled.{ruled_allowed, allowed_ruled}
use Rattle.policy.proofs.Step.{stands_of, image_stands, standing_allowed, unsound_refused, step}

-- ---- an image that is not sound
module _ (L : Layout) (img : List ℕ) (bad : T (sound L img) → ⊥) where
  refuses : (ss : List (List ℕ)) (s : List ℕ) → judge L (image_after L img ss) s ≡ refusal 1 255 img
  unfolding image_after
  refuses [] s = unsound_refused L img s bad
  refuses (r ∷ ss) s = ap (λ (o : Out). judge L (image_after L o.bytes ss) s) (unsound_refused L img r bad) ∙ refuses ss s

  left_out : LeftOut L img
  left_out = record { unsound = bad; refuses = refuses }

  pub refused_all : RefusedAll L img
  unfolding check read_out
  refused_all = record {
    judging = λ s. unsound_refused L img s bad;
    checking = cond_false (sound L img) _ (refusal 1 255 img) bad;
    reading = λ n out. cond_false (sound L img) (read_out_tables L (decode L img) n out) (refusal 1 0 out) bad;
  }

-- L's records, on images with other sizes
abbrev resized : Layout → ℕ → ℕ → ℕ → ℕ → List ℕ → Bool → Layout
resized L p s w c h e = record {
  packages = p;
  services = s;
  width = w;
  capacity = c;
  header = h;
  early = e;
  version = L.version;
  count_width = L.count_width;
  most_rows = L.most_rows;
  most_callers = L.most_callers;
  methods = L.methods;
  reads = L.reads;
}

-- ---- the passage
module _ (L M : Layout) where
  -- what stands under L has room under M
  formed_wider : Widens L M → (t : Tables) → Formed L t → Formed M t
  formed_wider w t f = record {
    names = record {
      used_lt = λ n u. le_trans (f.names.used_lt n u) w.packages;
      prov_lt = λ j k p. le_trans (f.names.prov_lt j k p) w.services;
      prov_used = f.names.prov_used;
      aid_valid = f.names.aid_valid;
      aid_blank = f.names.aid_blank;
      tok_blank = f.names.tok_blank;
      aid_inj = f.names.aid_inj;
      tok_inj = f.names.tok_inj;
    };
    calls = f.calls;
    grants = f.grants;
    need_call = f.need_call;
    unmet = f.unmet;
    waiting = f.waiting;
  }

  fitting_wider : Widens L M → (t : Tables) → Fitting L t → Fitting M t
  fitting_wider w t f = record { unmet_fits = le_trans f.unmet_fits w.capacity; waiting_fits = le_trans f.waiting_fits w.capacity }

  pub passage : Passage L M
  unfolding carried
  passage img cs f p =
      let t = decode L img in
      let g = formed_wider p.widens t (sound_formed L img f.is_sound) in
      let fit = fitting_wider p.widens t (sound_fitting L img f.is_sound) in
      let st = stands_of L img cs f in
      let al = p.allowed (standing_allowed L img cs f) in
      (round_trip M p.is_ok t (formed_room M t g (allowed_ruled M M t cs g st al) fit), image_stands M p.is_ok t cs g (sound_lawful L img f.is_sound) fit st al)

  -- ---- where the bytes stay the same
  module _ (e : SameBytes L M) where
    same_sizes : L ≡ resized L M.packages M.services M.width M.capacity M.header M.early
    same_sizes i = resized L (e.packages i) (e.services i) (e.width i) (e.capacity i) (e.header i) (e.early i)

    same_encode : (t : Tables) → encode L t ≡ encode M t
    unfolding encode
    same_encode t = ap (λ (z : Layout). encode z t) same_sizes

    same_decode : (img : List ℕ) → decode L img ≡ decode M img
    unfolding decode
    same_decode img = ap (λ (z : Layout). decode z img) same_sizes

    same_image : (img : List ℕ) → T (sound L img) → carried L M img ≡ img
    unfolding carried
    same_image img ok = sym (same_encode (decode L img)) ∙ sound_written L img ok

    widens : Widens L M
    widens = record { packages = to e.packages; services = to e.services; capacity = to e.capacity }
      where
        to : {m n : ℕ} → m ≡ n → m ≤ n
        to h = omega arith

    -- a sound image of M that stands for the contracts by L does so by M
    allowed_of : (img : List ℕ) (cs : List Contract) → StandsFor L img cs → T (sound M img) → AllAllowed M cs
    allowed_of img cs f ok = ruled_allowed M (decode M img) cs (sound_formed M img ok) (subst (λ (t : Tables). Stands t [] cs) (same_decode img) (stands_of L img cs f)) (sound_ruled M img ok)

    pub stays : LayoutOk M → Stays L M
    stays mo = record {
      same_image = same_image;
      told = allowed_of;
      goes_on = λ img cs f al. subst (λ (z : List ℕ). StandsFor M z cs) (same_image img f.is_sound) (passage img cs f (record { is_ok = mo; widens = widens; allowed = λ _. al })).1;
      left_out = λ img cs f held. left_out M img (λ ok. held (allowed_of img cs f ok));
    }

  -- ---- where the sizes stay the same: all that stands before the waiting grants is copied, behind another header
  module _ (lo : LayoutOk L) (ep : L.packages ≡ M.packages) (es : L.services ≡ M.services) (ew : L.width ≡ M.width) (ec : L.capacity ≡ M.capacity) where
    sizes : L ≡ resized L M.packages M.services M.width M.capacity L.header L.early
    sizes i = resized L (ep i) (es i) (ew i) (ec i) L.header L.early

    same_front : (t : Tables) → front L t ≡ front M t
    unfolding front
    same_front t = ap (λ (z : Layout). front z t) sizes

    pub carried_is : (img : List ℕ) → T (sound L img) → carried L M img
        ≡ M.header ++ (take (waiting_at L - 3) (drop 3 img) ++ write_list M (write_waiting M (decode L img).provides (decode L img).tok) (waiting_size M) (decode L img).waiting)
    unfolding carried
    carried_is img ok =
        let t = decode L img in
        let old = write_list L (write_waiting L t.provides t.tok) (waiting_size L) t.waiting in
        let bytes : img ≡ L.header ++ (front L t ++ old) = sym (sound_written L img ok) ∙ front_encode L t in
        let copied : take (waiting_at L - 3) (drop 3 img) ≡ front L t =
        ap (λ (z : List ℕ). take (waiting_at L - 3) (drop 3 z)) bytes ∙ ap (take (waiting_at L - 3)) (drop_at L.header (front L t ++ old) 3 lo.header_size)
        ∙ take_at (front L t) old (waiting_at L - 3) (length_front L lo t (formed_room L t (sound_formed L img ok) (sound_ruled L img ok) (sound_fitting L img ok))) in
        front_encode M t ∙ ap (λ (z : List ℕ). M.header ++ (z ++ write_list M (write_waiting M t.provides t.tok) (waiting_size M) t.waiting)) (sym (copied ∙ same_front t))

  -- ---- the converter
  pub converts : (img b : List ℕ) → Converts L M img b
  unfolding convert
  converts img b =
      let x = sound L img in
      let y = eqb (length b) (size M) in
      record {
        taken = λ ok e. cond_true (x && y) _ (refusal 1 255 b) (and_i x y ok (eqb_of e));
        not_sound = λ bad. cond_false (x && y) _ (refusal 1 255 b) (λ h. bad (and_l x y h));
        not_sized = λ bad. cond_false (x && y) _ (refusal 1 255 b) (λ h. bad (eqb→eq (length b) (size M) (and_r x y h)));
      }

-- ---- one era
module _ (L : Layout) (lo : LayoutOk L) where
  equal_answers : (ss : List (List ℕ)) (img : List ℕ) (cs : List Contract) → StandsFor L img cs → answers L img ss ≡ machine_answers L cs ss
  unfolding answers machine_answers
  equal_answers [] img cs f = refl
  equal_answers (s ∷ ss) img cs f = let p = step L lo img s cs f in λ i. p.0 i ∷ equal_answers ss (judge L img s).bytes (machine L cs s).contracts p.1 i

  stands_after : (ss : List (List ℕ)) (img : List ℕ) (cs : List Contract) → StandsFor L img cs → StandsFor L (image_after L img ss) (contracts_after L cs ss)
  unfolding image_after contracts_after
  stands_after [] img cs f = f
  stands_after (s ∷ ss) img cs f = stands_after ss (judge L img s).bytes (machine L cs s).contracts (step L lo img s cs f).1

-- the contracts that an image stands for are lawful, as facts
module _ (L : Layout) (img : List ℕ) (cs : List Contract) (f : StandsFor L img cs) where
  pub standing_granted : CallsGranted cs
  standing_granted = calls_granted_lem L (decode L img) cs (sound_formed L img f.is_sound) (sound_lawful L img f.is_sound) (stands_of L img cs f)

  pub standing_present : NeedsPresent cs
  standing_present = needs_present L (decode L img) cs (sound_formed L img f.is_sound) (sound_lawful L img f.is_sound) (stands_of L img cs f)

-- ---- histories over changes of the rules
over_answers : (es : List Era) (L : Layout) → LayoutOk L → (img : List ℕ) (cs : List Contract) → StandsFor L img cs → (ss : List (List ℕ)) → AllPass L cs ss es
    → (answers_over L img ss es ≡ machine_answers_over L cs ss es) × StandsFor (last_rules L es) (image_over L img ss es) (contracts_over L cs ss es)
unfolding answers_over machine_answers_over image_over contracts_over
over_answers [] L lo img cs f ss a = (equal_answers L lo ss img cs f, stands_after L lo ss img cs f)
over_answers (e ∷ es) L lo img cs f ss a =
    let M = e.rules in
    let after = image_after L img ss in
    let held = contracts_after L cs ss in
    let p = passage L M after held (stands_after L lo ss img cs f) a.0 in
    let h = over_answers es M a.0.is_ok (carried L M after) held p.1 e.records a.1 in
    (λ i. equal_answers L lo ss img cs f i ++ h.0 i, h.1)

pub history_from : (L : Layout) → LayoutOk L → HistoryFrom L
history_from L lo img cs f ss es a =
    let h = over_answers es L lo img cs f ss a in
    record {
      equal_answers = h.0;
      stands_for = h.1;
      calls_granted = standing_granted (last_rules L es) (image_over L img ss es) (contracts_over L cs ss es) h.1;
      needs_present = standing_present (last_rules L es) (image_over L img ss es) (contracts_over L cs ss es) h.1;
    }
