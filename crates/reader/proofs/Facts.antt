-- Reading facts: one by its rank, so many of them, and those of a shape.
use mathlib.Core.Bool.{Bool, ◌&&◌}
use mathlib.Core.List.{List, ◌∷◌}
use mathlib.Core.Option.{Option, none, some}
use mathlib.Core.Path.{◌≡◌, refl, sym, ap, subst, ◌∙◌}
use Prim.Native.Nat.{ℕ, suc, ◌+◌, ◌-◌, ◌*◌, ◌≤◌, ◌<◌}
use native.Mathlib.Decide.{dec_lt}
use native.Mathlib.Omega.{arith}
use borrow.Author.Tests.{eq-eqb, ne_eqb}
use lib.Dec.{ltb, leb}
use Rattle.lists.proofs.Reflect.{Reflect, r_eq, r_lt, r_le, r_and, r_or, r_iff, r_itself, is_true, same_test, cond_true, cond_cases}
use Rattle.number.specs.Number.{number_at, numeral}
use Rattle.facts.specs.Facts.{Fact, FactOf}
use Rattle.format.specs.Job.{rises, rises_after, fact_of, read_fact, facts_after, read_facts}
use Rattle.format.specs.Parser.{Reason, Parsed, parsed, fault, Buffer, within, such, read_as, ranged}
use Rattle.format.proofs.Parsing.{not_fault, then, read_sound, read_complete, read_fault, read_outside, read_refuses, faulty_map, ranged_exact, such_none as none-such}
use Rattle.format.proofs.Sequence.{reads_one}
use Rattle.reader.specs.Facts.{rank, LeastAfter, ranked}
use Rattle.reader.specs.Number.{without_value}
use Rattle.reader.proofs.Answers.{in_range, such_none}
use Rattle.reader.proofs.Many.{without_value_made}

-- ---- facts about at most 12 cells rise by their ranks

module _ (n : ℕ) (few : n ≤ 12) where
  ranks_rise : (t u : Fact) → FactOf n t → FactOf n u → rises t u ≡ leb (suc (rank t)) (rank u)
  ranks_rise t u (kind-t, left-t, right-t) (kind-u, left-u, right-u) =
      same_test
      (r_or (r_lt t.kind u.kind)
      (r_and (r_eq t.kind u.kind) (r_or (r_lt t.left u.left) (r_and (r_eq t.left u.left) (r_lt t.right u.right)))))
      (r_le (suc (rank t)) (rank u)) (λ h. by_kind h (dec_lt t.kind u.kind)) (λ h k. (omega arith, λ l. (omega arith, omega arith)))
    where
      by_left : t.kind ≡ u.kind → (¬ (t.left < u.left) → (t.left ≡ u.left) × (t.right < u.right)) → Dec (t.left < u.left) → suc (rank t) ≤ rank u
      by_left k h (yes l) = omega arith
      by_left k h (no l) = let (e, r) = h l in omega arith

      by_kind : (¬ (t.kind < u.kind) → (t.kind ≡ u.kind) × (¬ (t.left < u.left) → (t.left ≡ u.left) × (t.right < u.right))) → Dec (t.kind < u.kind) → suc (rank t) ≤ rank u
      by_kind h (yes k) = omega arith
      by_kind h (no k) = let (e, later) = h k in by_left e later (dec_lt t.left u.left)

  rises_by : (least : ℕ) (last : Option Fact) (u : Fact) → LeastAfter n last least → FactOf n u → rises_after last u ≡ leb least (rank u)
  rises_by least none u z of = sym (is_true (leb least (rank u)) ((r_le least (rank u)).tests (omega arith)))
  rises_by least (some t) u (of-t, z) of = ranks_rise t u of-t of ∙ ap (λ k. leb k (rank u)) (sym z)

-- ---- a fact, number after number

-- its rank is small
pub rank_fits : (s : Buffer) (n at a b : ℕ) {kind i j c : ℕ} → n ≤ 12 → ranged s 0 2 at ≡ parsed kind a → ranged s 0 n a ≡ parsed i b
    → ranged s 0 n b ≡ parsed j c → kind * 256 + i * 16 + j < 512
rank_fits s n at a b few e₁ e₂ e₃ =
    let (_, kind) = in_range s 0 2 at _ a e₁ in
    let (_, left) = in_range s 0 n a _ b e₂ in
    let (_, right) = in_range s 0 n b _ _ e₃ in
    omega arith

module _ (s : Buffer) (n : ℕ) (last : Option Fact) (at : ℕ) where
  pub lost_kind : {why : Reason} {place : ℕ} → ranged s 0 2 at ≡ fault why place → fault why place ≡ ranked (read_fact s n last at)
  unfolding read_fact
  lost_kind e = rw e refl

  module _ {kind a : ℕ} (e₁ : ranged s 0 2 at ≡ parsed kind a) where
    pub lost_left : {why : Reason} {place : ℕ} → ranged s 0 n a ≡ fault why place → fault why place ≡ ranked (read_fact s n last at)
    unfolding read_fact
    lost_left e = rw (e₁, e) refl

    module _ {i b : ℕ} (e₂ : ranged s 0 n a ≡ parsed i b) where
      abbrev right : ℕ → Bool
      right j = ltb j n && rises_after last (fact_of kind i j)

      pub lost_right : {why : Reason} {place : ℕ} → ranged s 0 n b ≡ fault why place → fault why place ≡ ranked (read_fact s n last at)
      unfolding read_fact
      lost_right {why} {place} e =
          let (b_is, f) = read_fault s (such (within 0 n)) b why place e in
          let lost : read_as s (such right) b ≡ fault why b =
          read_refuses s (such right) b why
          (faulty_map s
          (λ j out. such_none right j
          (λ t. none-such (within 0 n) j out
          ((r_and (r_le 0 j) (r_lt j n)).tests (omega arith, ((r_and (r_lt j n) (r_itself (rises_after last (fact_of kind i j)))).holds t).0))))
          f) in
          rw (e₁, e₂, lost) (ap (fault why) (sym b_is))

      module _ {j c : ℕ} (e₃ : ranged s 0 n b ≡ parsed j c) (few : n ≤ 12) (least : ℕ) (due : LeastAfter n last least) where
        abbrev number : ℕ
        number = kind * 256 + i * 16 + j

        made_of : FactOf n (fact_of kind i j)
        made_of =
            let (_, small) = in_range s 0 2 at kind a e₁ in
            let (_, left) = in_range s 0 n a i b e₂ in
            let (_, right) = in_range s 0 n b j c e₃ in
            (small, (omega arith, omega arith), (omega arith, omega arith))

        rank_is : rank (fact_of kind i j) ≡ number
        rank_is = omega arith

        -- its second cell passes the test exactly if its rank is not below the least
        r_right : Reflect (least ≤ number) (right j)
        r_right =
            let (_, below) = in_range s 0 n b j c e₃ in
            r_iff {Q = least ≤ number} (λ (_, h). omega (arith, rank_is)) (λ h. (below, omega (arith, rank_is)))
            (r_and (r_lt j n)
            (subst (λ (test : Bool). Reflect (least ≤ rank (fact_of kind i j)) test) (sym (rises_by n few least last (fact_of kind i j) due made_of))
            (r_le least (rank (fact_of kind i j)))))

        second : number_at s.bytes b ≡ numeral j c
        second = reads_one ((ranged_exact s 0 n).sound b j c e₃).0

        pub too_low : (k : Reason) → k ≡ s.outside → number < least → fault k b ≡ ranked (read_fact s n last at)
        unfolding read_fact
        too_low k k_is h =
            let lost = read_outside s (such right) b j c second (such_none right j (λ t. let z = r_right.holds t in omega arith)) in
            rw (e₁, e₂, lost) (ap (λ k. fault k b) k_is)

        pub fact_made : least ≤ number → parsed number c ≡ ranked (read_fact s n last at)
        unfolding read_fact
        fact_made h =
            let got = read_complete s (such right) b j c j second (cond_true (right j) (some j) none (r_right.tests h)) in
            rw (e₁, e₂, got) (ap (λ k. parsed k c) (sym rank_is))

  second_below : (kind i k j : ℕ) → such (λ j. ltb j n && rises_after last (fact_of kind i j)) k ≡ some j → j < n
  second_below kind i k j = cond_cases (λ o. o ≡ some j → j < n) (r_and (r_lt k n) (r_itself (rises_after last (fact_of kind i k))))
      (λ (h, _) e. let k_is : k ≡ j = cc in omega arith) (λ _ e. let z : ◌≡◌ {A = ℕ} 0 1 = cc in absurd (omega arith))

  -- a fact that was read is about n cells
  fact_of_lem : (t : Fact) (next : ℕ) → read_fact s n last at ≡ parsed t next → FactOf n t
  unfolding read_fact
  fact_of_lem t next =
      then (ranged s 0 2 at) _
      (λ kind a h₁. then (ranged s 0 n a) _
      (λ i b h₂. then (read_as s (such (λ j. ltb j n && rises_after last (fact_of kind i j))) b) _
      (λ j c h₃ r.
      let (k, _, m) = read_sound s (such (λ j. ltb j n && rises_after last (fact_of kind i j))) b j c h₃ in
      let (_, small) = in_range s 0 2 at kind a h₁ in
      let (_, left) = in_range s 0 n a i b h₂ in
      let right = second_below kind i k j m in
      let t_is : fact_of kind i j ≡ t = cc in
      rw (← t_is) (small, (omega arith, omega arith), (omega arith, omega arith)))))

-- ---- so many facts: i of them are read, the next is at a place

-- a fact that was read, from its rank
unranked : (x : Parsed Fact) (k next : ℕ) → ranked x ≡ parsed k next → (t : Fact) × (x ≡ parsed t next) × (rank t ≡ k)
unranked (parsed t mid) k next e = let mid_is : mid ≡ next = cc in (t, ap (parsed t) mid_is, cc)
unranked (fault why place) k next e = absurd (not_fault k next why place e)

ranked_fault : (x : Parsed Fact) (why : Reason) (place : ℕ) → ranked x ≡ fault why place → x ≡ fault why place
ranked_fault (parsed t mid) why place e = absurd (not_fault (rank t) mid why place (sym e))
ranked_fault (fault k q) why place e = let z : k ≡ why = cc in let y : q ≡ place = cc in cc

module _ (s : Buffer) (n count first : ℕ) where
  pub record Rising (at least i : ℕ) : Type 0 where
    pub upto : i ≤ count
    pub last : Option Fact
    pub due : LeastAfter n last least
    pub same : without_value (facts_after s n (count - i) last at) ≡ without_value (facts_after s n count none first)

  one_more_lem : (k : ℕ) (last : Option Fact) (at : ℕ) (t : Fact) (next : ℕ) → read_fact s n last at ≡ parsed t next
      → without_value (facts_after s n (suc k) last at) ≡ without_value (facts_after s n k (some t) next)
  unfolding facts_after
  one_more_lem k last at t next g = rw g (sym (without_value_made (facts_after s n k (some t) next) (λ (ts : List Fact). t ∷ ts)))

  pub rise_none : Rising first 0 0
  rise_none =
      let all : count - 0 ≡ count = omega arith in
      record { upto = omega arith; last = none; due = refl; same = rw all refl }

  module _ (at least i : ℕ) (w : Rising at least i) where
    pub rise_all : count ≤ i → parsed tt at ≡ without_value (facts_after s n count none first)
    unfolding facts_after
    rise_all h =
        let left : count - i ≡ 0 = omega arith in
        let done : without_value (facts_after s n (count - i) w.last at) ≡ parsed tt at = rw left refl in
        sym done ∙ w.same

    module _ (more : i < count) where
      abbrev left : ℕ
      left = count - (i + 1)

      left_is : count - i ≡ suc left
      left_is = omega arith

      pub rise_lost : (why : Reason) (place : ℕ) → ranked (read_fact s n w.last at) ≡ fault why place
          → fault why place ≡ without_value (facts_after s n count none first)
      unfolding facts_after
      rise_lost why place e =
          let stopped : without_value (facts_after s n (count - i) w.last at) ≡ fault why place =
          rw (left_is, ranked_fault (read_fact s n w.last at) why place e) refl in
          sym stopped ∙ w.same

      module _ (k next : ℕ) (e : ranked (read_fact s n w.last at) ≡ parsed k next) where
        pub rank_small : n ≤ 12 → k < 512
        rank_small few =
            let (t, g, k_is) = unranked (read_fact s n w.last at) k next e in
            let (kind, left, right) = fact_of_lem s n w.last at t next g in
            omega arith

        pub rise_more : Rising next (k + 1) (i + 1)
        rise_more =
            let (t, g, k_is) = unranked (read_fact s n w.last at) k next e in
            record {
              upto = omega arith;
              last = some t;
              due = (fact_of_lem s n w.last at t next g, omega arith);
              same = sym (ap (λ k. without_value (facts_after s n k w.last at)) left_is ∙ one_more_lem left w.last at t next g) ∙ w.same;
            }

-- ---- the facts of a shape

module _ (s : Buffer) (n version at : ℕ) where
  pub facts_none : (version ≡ 2 → ⊥) → parsed tt at ≡ without_value (read_facts s n version at)
  unfolding read_facts
  facts_none h = rw (ne_eqb version 2 h) refl

  module _ (second : version ≡ 2) where
    pub lost_count : {why : Reason} {place : ℕ} → ranged s 0 289 at ≡ fault why place → fault why place ≡ without_value (read_facts s n version at)
    unfolding read_facts
    lost_count e = rw (eq-eqb version 2 second, e) refl

    pub facts_listed : {count a : ℕ} → ranged s 0 289 at ≡ parsed count a
        → without_value (facts_after s n count none a) ≡ without_value (read_facts s n version at)
    unfolding read_facts
    facts_listed e = rw (eq-eqb version 2 second, e) refl
