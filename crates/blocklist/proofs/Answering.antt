-- The answers of count, insert and remove: ready or not, by the cells met, and by the turns.
use mathlib.Core.Bool.{Bool, true, false, cond, true≢false}
use mathlib.Core.List.{List, [], ◌∷◌}
use mathlib.Core.Logic.{ite}
use mathlib.Core.Option.{Option, none, some}
use mathlib.Core.Path.{◌≡◌, refl, sym, ap, ◌∙◌, subst}
use Prim.Native.Nat.{ℕ, zero, suc, ◌-◌, ◌≤◌, ◌<◌}
use native.Mathlib.Omega.{arith}
use borrow.Author.Tests.{leb-true, le-leb, le-ltb, lt-ltb}
use lib.Dec.{leb, ltb}
use lib.ListN.{length}
use Rattle.std.specs.Prelude.{Result, Ok, Err}
use Rattle.lists.proofs.Test.{and_left, and_right}
use Rattle.heap.specs.Heap.{Heap, update}
use Rattle.heap.specs.Operation.{equal, new, Enabled, enabled?, operation}
use Rattle.heap.specs.Place.{nowhere, cell}
use Rattle.stepper.specs.Step.{stays, lowest_unused, table_after, perform, step_of, Steps}
use Rattle.stepper.specs.Table.{heap_of, well_formed}
use Rattle.stepper.specs.Turns.{on_moved, InTurn, StepsInTurn}
use Rattle.stepper.specs.declared.Heap64.{Heap64}
use Rattle.stepper.specs.declared.Outcome.{Outcome}
use Rattle.stepper.specs.declared.Outcome.TheVariants.{Moved, Blocked, Refused}
use Rattle.stepper.specs.declared.StepRefusal.TheVariants as step-refusal
use Rattle.stepper.specs.declared.Stepped.{Stepped}
use Rattle.blocklist.specs.BlockList.{Lists, cell_at, counted, inserted, removed}
use Rattle.blocklist.specs.Answers.{ready, blocks, with_list, length_told, Counted, Edited, count_of, hands_back, done, insert_of, remove_nth, remove_of, MetFromHead, Counts, Inserts, Removes}
use Rattle.blocklist.specs.Parts.{refused_as, edit_of, edited_as, EditedBy, times, once, rest_turns, insert_turns, first_turns, after_turns}
use Rattle.blocklist.specs.Sentences.{OnlyRests, PutsIn, TakesOut}
use Rattle.blocklist.specs.declared.ListRefusal.{ListRefusal}
use Rattle.blocklist.specs.declared.ListRefusal.TheVariants.{IllFormed, NoList, PastList, Full}
use Rattle.blocklist.proofs.Chains.{cells_lists, cells_length}
use Rattle.blocklist.proofs.Meaning.{only_rests, puts_in, takes_out}
use Rattle.blocklist.proofs.Moving.{by_name, spot_of, spot_is, heap_at, At, Done, turn_is, taken}
use Rattle.blocklist.proofs.Walking.{rested}
use Rattle.blocklist.proofs.Inserting as inserting
use Rattle.blocklist.proofs.Removing as removing

not_done : (r : ListRefusal) → ◌≡◌ {A = Result (Unit {0}) ListRefusal} (Err r) (Ok tt) → ⊥
not_done r e = let z : ◌≡◌ {A = ℕ} 0 1 = cc in omega arith

-- ---- ready, or not

pub record Ready (t : Heap64) : Type 0 where
  pub formed : well_formed t ≡ true
  pub enough : 3 ≤ t.variables

is_ready : (t : Heap64) → ready t ≡ true → Ready t
is_ready t e =
    record {
      formed = and_left (well_formed t) (leb 3 t.variables) e;
      enough = leb-true 3 t.variables (and_right (well_formed t) (leb 3 t.variables) e);
    }

module _ (t : Heap64) (turns : List ℕ) (s : Stepped) where
  -- a table that is ready, ahead of all turns
  abbrev begun : Ready t → StepsInTurn t turns s → At t.variables turns s (spot_of (heap_of t))
  begun a p = record { table = t; stands = record { formed = a.formed; variables = refl; heap = spot_is (heap_of t) }; left = p.in_turn a.formed }

-- where it is not ready, a first turn of variable 3 is refused
module _ (t : Heap64) (kind b : ℕ) (turns : List ℕ) (s : Stepped) (few : leb 3 t.variables ≡ false → operation t.variables kind 3 b ≡ none) where
  unready : kind < 16 → b < 16 → ready t ≡ false → StepsInTurn t (once kind 3 b ∷ turns) s → edit_of s.outcome ≡ Err IllFormed
  unfolding step_of
  unready k l e p = go (well_formed t) refl (leb 3 t.variables) refl
    where
      refused : (u : Stepped) → Steps t kind 3 b 0 u → well_formed t ≡ true → leb 3 t.variables ≡ false → u ≡ stays t (Refused step-refusal.BadOperation)
      refused u st w f = st.result ∙ rw (w, few f) refl

      stuck : (u : Stepped) (P : Type 0) → u.outcome ≡ Refused step-refusal.BadOperation → on_moved u.outcome P (s ≡ u) → s ≡ u
      stuck u P z w = subst (λ (o : Outcome). on_moved o P (s ≡ u)) z w

      go : (w : Bool) → well_formed t ≡ w → (f : Bool) → leb 3 t.variables ≡ f → edit_of s.outcome ≡ Err IllFormed
      go false w f z = ap (λ (q : Stepped). edit_of q.outcome) (p.ill_formed w)
      go true w true z = absurd (true≢false (sym (rw (w, z) refl) ∙ e))
      go true w false z =
          let (u, st, on) = subst (λ (P : Type 0). P) (turn_is 1 kind 3 b turns k (omega arith) l t s) (p.in_turn w) in
          let is = refused u st w z in
          let same : s ≡ u = stuck u (InTurn turns u.heap s) (ap (λ (q : Stepped). q.outcome) is) on in
          ap (λ (q : Stepped). edit_of q.outcome) (same ∙ is)

-- ---- the cells met

-- a length that is told is that of the list
pub record Found (t : Heap64) (n : ℕ) : Type 0 where
  pub cells : List ℕ
  pub found : blocks t ≡ some cells
  pub lists : Lists (heap_of t).link ((heap_of t).var 1) cells
  pub count : length cells ≡ n
  pub most : n ≤ 64

pub found_list : (t : Heap64) (n : ℕ) → Ok n ≡ length_told (blocks t) → Found t n
found_list t n e = go (blocks t) refl e
  where
    go : (o : Option (List ℕ)) → blocks t ≡ o → Ok n ≡ length_told o → Found t n
    go none k z = let q : ◌≡◌ {A = ℕ} 0 1 = cc in absurd (omega arith)
    go (some xs) k z =
        let same : length xs ≡ n = cc in
        let b = cells_length (heap_of t).link 64 ((heap_of t).var 1) xs k in
        record { cells = xs; found = k; lists = cells_lists (heap_of t).link 64 ((heap_of t).var 1) xs k; count = same; most = omega arith }

none_found : (t : Heap64) (r : ListRefusal) → Err r ≡ length_told (blocks t) → (blocks t ≡ none) × (r ≡ NoList)
none_found t r e = go (blocks t) refl e
  where
    go : (o : Option (List ℕ)) → blocks t ≡ o → Err r ≡ length_told o → (blocks t ≡ none) × (r ≡ NoList)
    go none k z = let same : r ≡ NoList = cc in (k, same)
    go (some xs) k z = let q : ◌≡◌ {A = ℕ} 0 1 = cc in absurd (omega arith)

-- the answer by readiness and by the list
module _ {A : Type 0} (t : Heap64) (refused : ListRefusal → A) (f : List ℕ → A) where
  not_ready : ready t ≡ false → refused IllFormed ≡ with_list t refused f
  not_ready e = rw e refl

  no_list : ready t ≡ true → blocks t ≡ none → refused NoList ≡ with_list t refused f
  no_list e k = rw (e, k) refl

  by_list : ready t ≡ true → (xs : List ℕ) → blocks t ≡ some xs → f xs ≡ with_list t refused f
  by_list e xs k = rw (e, k) refl

module _ (t : Heap64) (m : MetFromHead t) where
  abbrev h : Heap
  h = heap_of t

  -- a refusal after 13, by a case for each readiness
  refused_by : {A : Type 0} (P : Result A ListRefusal × Heap64 → Type 0) (r : ListRefusal) → (ready t ≡ false → P (hands_back t IllFormed)) → (ready t ≡ true → P (hands_back t r)) → P (hands_back t (refused_as t r))
  refused_by P r back done = go (ready t) refl
    where
      go : (b : Bool) → ready t ≡ b → P (hands_back t (cond b r IllFormed))
      go true e = done e
      go false e = back e

  -- ---- an edit by turns, by its answer

  edited_ok : (s : Stepped) (after : Heap64) → ◌≡◌ {A = Edited} (Ok tt, after) (edited_as t s.heap (edit_of s.outcome))
      → (Ok tt ≡ edit_of s.outcome) × (after ≡ s.heap)
  edited_ok s after e = go (edit_of s.outcome) e
    where
      go : (o : Result (Unit {0}) ListRefusal) → ◌≡◌ {A = Edited} (Ok tt, after) (edited_as t s.heap o) → (Ok tt ≡ o) × (after ≡ s.heap)
      go (Ok u) z = (refl, ap (λ (r : Edited). r.1) z)
      go (Err f) z = absurd (not_done f (sym (ap (λ (r : Edited). r.0) z)))

  edited_err : (s : Stepped) (after : Heap64) (r : ListRefusal) → ◌≡◌ {A = Edited} (Err r, after) (edited_as t s.heap (edit_of s.outcome))
      → (Err r ≡ edit_of s.outcome) × (after ≡ t)
  edited_err s after r e = go (edit_of s.outcome) e
    where
      go : (o : Result (Unit {0}) ListRefusal) → ◌≡◌ {A = Edited} (Err r, after) (edited_as t s.heap o) → (Err r ≡ o) × (after ≡ t)
      go (Ok u) z = absurd (not_done r (ap (λ (r : Edited). r.0) z))
      go (Err f) z = (ap (λ (r : Edited). r.0) z, ap (λ (r : Edited). r.1) z)

  -- ---- count

  abbrev not_counted : ListRefusal → Counted
  not_counted = hands_back t

  count_back : (r : ListRefusal) → not_counted r ≡ count_of t → Counts t (not_counted r)
  count_back r e =
      record { result = e; formed = λ f. f; met = m; counts = λ n z. let q : ◌≡◌ {A = ℕ} 0 1 = cc in absurd (omega arith) }

  pub count_none : (r : ListRefusal) → Err r ≡ length_told (blocks t) → Counts t (hands_back t (refused_as t NoList))
  unfolding count_of
  count_none r e =
      refused_by (Counts t) NoList (λ z. count_back IllFormed (not_ready t not_counted _ z))
      (λ a. count_back NoList (no_list t not_counted _ a (none_found t r e).0))

  module _ (after : Heap64) where
    few : leb 3 t.variables ≡ false → operation t.variables 3 3 0 ≡ none
    few e = rw e refl

    -- where the turns are refused
    pub count_unready : (r : ListRefusal) → EditedBy t rest_turns (Err r, after) → Counts t (Err r, after)
    unfolding count_of
    count_unready r (s, p, is) =
        let (o, same) = edited_err s after r is in
        subst (λ (u : Heap64). Counts t (Err r, u)) (sym same) (go s p o (ready t) refl)
      where
        go : (s : Stepped) → StepsInTurn t rest_turns s → Err r ≡ edit_of s.outcome → (b : Bool) → ready t ≡ b → Counts t (not_counted r)
        go s p o true a = absurd (not_done r (o ∙ ap edit_of (rested (is_ready t a).enough (begun t rest_turns s (is_ready t a) p) refl).moved))
        go s p o false a =
            let none_done : Err r ≡ Err IllFormed = o ∙ unready t 3 0 (once 3 2 0 ∷ []) s few (omega arith) (omega arith) a p in
            let r_is : r ≡ IllFormed = cc in
            count_back r (ap not_counted r_is ∙ not_ready t not_counted _ a)

    -- and where they are done
    pub count_done : EditedBy t rest_turns (Ok tt, after) → (n : ℕ) → Ok n ≡ length_told (blocks t) → Counts t (Ok n, after)
    unfolding count_of
    count_done (s, p, is) n e =
        let (o, same) = edited_ok s after is in
        subst (λ (u : Heap64). Counts t (Ok n, u)) (sym same) (go s p o (ready t) refl)
      where
        l : Found t n
        l = found_list t n e

        go : (s : Stepped) → StepsInTurn t rest_turns s → Ok tt ≡ edit_of s.outcome → (b : Bool) → ready t ≡ b → Counts t (Ok n, s.heap)
        go s p o false a = absurd (not_done IllFormed (sym (o ∙ unready t 3 0 (once 3 2 0 ∷ []) s few (omega arith) (omega arith) a p)))
        go s p o true a =
            let d : Done t.variables s (counted h) = rested (is_ready t a).enough (begun t rest_turns s (is_ready t a) p) refl in
            let table_is = d.table in
            let length-is-n = sym l.count in
            record {
              result = (λ i. (Ok (length-is-n i), table_is i)) ∙ by_list t not_counted _ a l.cells l.found;
              formed = λ f. d.stands.formed;
              met = m;
              counts = λ k w. (l.cells, l.found, (let same : n ≡ k = cc in l.count ∙ same), d.stands.heap, subst (OnlyRests h) (sym d.stands.heap) (only_rests h));
            }

  -- ---- insert and remove

  insert_back : (n : ℕ) (r : ListRefusal) → hands_back t r ≡ insert_of t n → Inserts t n (hands_back t r)
  insert_back n r e = record { result = e; formed = λ f. f; met = m; inserts = λ z. absurd (not_done r z) }

  remove_back : (n : ℕ) (r : ListRefusal) → hands_back t r ≡ remove_of t n → Removes t n (hands_back t r)
  remove_back n r e = record { result = e; formed = λ f. f; met = m; removes = λ z. absurd (not_done r z) }

  insert_unready : (n : ℕ) → ready t ≡ false → Inserts t n (hands_back t IllFormed)
  unfolding insert_of
  insert_unready n e = insert_back n IllFormed (not_ready t (hands_back t) _ e)

  pub insert_none : (n : ℕ) (r : ListRefusal) → Err r ≡ length_told (blocks t) → Inserts t n (hands_back t (refused_as t NoList))
  unfolding insert_of
  insert_none n r e =
      refused_by (Inserts t n) NoList (insert_unready n) (λ a. insert_back n NoList (no_list t (hands_back t) _ a (none_found t r e).0))

  remove_unready : (n : ℕ) → ready t ≡ false → Removes t n (hands_back t IllFormed)
  unfolding remove_of
  remove_unready n e = remove_back n IllFormed (not_ready t (hands_back t) _ e)

  pub remove_none : (n : ℕ) (r : ListRefusal) → Err r ≡ length_told (blocks t) → Removes t n (hands_back t (refused_as t NoList))
  unfolding remove_of
  remove_none n r e =
      refused_by (Removes t n) NoList (remove_unready n) (λ a. remove_back n NoList (no_list t (hands_back t) _ a (none_found t r e).0))

  -- an edit whose steps are all done
  record MadeOf (r : Edited) (k : Heap) : Type 0 where
    is : r ≡ done t k
    heap : heap_of r.1 ≡ k
    formed : well_formed r.1 ≡ true

  made : (r : Edited) (k : Heap) (s : Stepped) → r ≡ edited_as t s.heap (edit_of s.outcome) → Done t.variables s k → MadeOf r k
  made r k s e d =
      let after : r ≡ (Ok tt, s.heap) = e ∙ ap (λ (o : Outcome). edited_as t s.heap (edit_of o)) d.moved in
      let table_is = d.table in
      record {
        is = after ∙ (λ i. (Ok tt, table_is i));
        heap = ap (λ (q : Edited). heap_of q.1) after ∙ d.stands.heap;
        formed = subst (λ (q : Edited). well_formed q.1 ≡ true) (sym after) d.stands.formed;
      }

  -- and one that is refused
  edited_back : (r : Edited) (s : Stepped) (f : ListRefusal) → r ≡ edited_as t s.heap (edit_of s.outcome) → edit_of s.outcome ≡ Err f → r ≡ hands_back t f
  edited_back r s f e z = e ∙ ap (edited_as t s.heap) z

  module _ (c : ℕ) (l : Found t c) (n : ℕ) where
    abbrev xs : List ℕ
    xs = l.cells

    -- ---- insert: past the list, full, or done

    abbrev x : ℕ
    x = lowest_unused t.used

    abbrev inserted_in : List ℕ → Edited
    inserted_in ys =
        cond (ltb (length ys) n) (hands_back t PastList) (cond (leb 64 x) (hands_back t Full) (done t (inserted n (cell x) ys h)))

    inserted_in_lem : ready t ≡ true → inserted_in xs ≡ insert_of t n
    unfolding insert_of
    inserted_in_lem a = by_list t (hands_back t) inserted_in a xs l.found

    pub insert_past : c < n → Inserts t n (hands_back t (refused_as t PastList))
    insert_past b =
        let past : ltb (length xs) n ≡ true = let k = l.count in lt-ltb (length xs) n (omega arith) in
        refused_by (Inserts t n) PastList (insert_unready n) (λ a. insert_back n PastList
        (ap (λ (o : Bool). cond o (hands_back t PastList) (cond (leb 64 x) (hands_back t Full) (done t (inserted n (cell x) xs h)))) (sym past) ∙ inserted_in_lem a))

    within : n ≤ c → ltb (length xs) n ≡ false
    within b = let k = l.count in le-ltb (length xs) n (omega arith)

    with_room : n ≤ c → ready t ≡ true → (o : Bool) → leb 64 x ≡ o → cond o (hands_back t Full) (done t (inserted n (cell x) xs h)) ≡ insert_of t n
    with_room b a o z =
        ap (λ (q : Bool). cond q (hands_back t Full) (done t (inserted n (cell x) xs h))) (sym z)
        ∙ ap (λ (q : Bool). cond q (hands_back t PastList) (cond (leb 64 x) (hands_back t Full) (done t (inserted n (cell x) xs h)))) (sym (within b))
        ∙ inserted_in_lem a

    -- ---- remove: 0 or past the list, or done

    removed_in : ready t ≡ true → remove_nth t n xs ≡ remove_of t n
    unfolding remove_of
    removed_in a = by_list t (hands_back t) (remove_nth t n) a xs l.found

    pub remove_zero : n ≡ 0 → Removes t n (hands_back t (refused_as t PastList))
    remove_zero z =
        refused_by (Removes t n) PastList (remove_unready n) (λ a. remove_back n PastList (ap (λ (k : ℕ). remove_nth t k xs) (sym z) ∙ removed_in a))

    past_out : (k : ℕ) → c < k → hands_back t PastList ≡ remove_nth t k xs
    past_out zero b = absurd (omega arith)
    past_out (suc i) b =
        let over : ltb i (length xs) ≡ false = let k = l.count in le-ltb i (length xs) (omega arith) in
        ap (λ (o : Bool). cond o (done t (removed i xs h)) (hands_back t PastList)) (sym over)

    pub remove_past : c < n → Removes t n (hands_back t (refused_as t PastList))
    remove_past b = refused_by (Removes t n) PastList (remove_unready n) (λ a. remove_back n PastList (past_out n b ∙ removed_in a))

    -- the cell numbered i from 0 is taken out, by turns that do so on a table that is ready
    module _ (i : ℕ) (n_is : n ≡ suc i) (b : i < c) (turns : List ℕ) (r : Edited) (e : EditedBy t (once 3 3 1 ∷ turns) r) where
      few_3 : leb 3 t.variables ≡ false → operation t.variables 3 3 1 ≡ none
      few_3 z = rw z refl

      remove_by : (ready t ≡ true → Done t.variables e.0 (removed i xs h)) → Removes t n r
      remove_by does = go (ready t) refl
        where
          inside : ltb i (length xs) ≡ true
          inside = let k = l.count in lt-ltb i (length xs) (omega arith)

          go : (o : Bool) → ready t ≡ o → Removes t n r
          go false a =
              let back : r ≡ hands_back t IllFormed = edited_back r e.0 IllFormed e.2 (unready t 3 1 turns e.0 few_3 (omega arith) (omega arith) a e.1) in
              subst (Removes t n) (sym back) (remove_unready n a)
          go true a =
              let d = made r (removed i xs h) e.0 e.2 (does a) in
              record {
                result = d.is ∙ ap (λ (o : Bool). cond o (done t (removed i xs h)) (hands_back t PastList)) (sym inside) ∙ ap (λ (k : ℕ). remove_nth t k xs) (sym n_is) ∙ removed_in a;
                formed = λ f. d.formed;
                met = m;
                removes = λ z. (xs, i, n_is, l.found, d.heap, subst (TakesOut i (cell_at i xs) xs h) (sym d.heap) (takes_out h refl refl xs l.lists i (let k = l.count in omega arith)));
              }

    first_out : (ys : List ℕ) → Lists h.link (h.var 1) ys → 0 < length ys → ready t ≡ true → (s : Stepped) → StepsInTurn t first_turns s → Done t.variables s (removed 0 ys h)
    first_out [] k b a s p = absurd (omega arith)
    first_out (y ∷ ys) (e, o, k) b a s p =
        removing.takes_first h.link refl refl y ys (refl, o, k) (is_ready t a).enough h.var h.value (h.var 2) (h.var 3) refl
        (subst (λ (z : ℕ). At t.variables first_turns s (record { others = h.var; values = h.value; link = h.link; first = z; second = h.var 2; third = h.var 3 })) e
        (begun t first_turns s (is_ready t a) p))

    after_out : (ys : List ℕ) → Lists h.link (h.var 1) ys → (i : ℕ) → suc i < length ys → ready t ≡ true → (s : Stepped) → StepsInTurn t (after_turns i) s
        → Done t.variables s (removed (suc i) ys h)
    after_out [] k i b a s p = absurd (omega arith)
    after_out (y ∷ ys) (e, o, k) i b a s p =
        removing.takes_after h.link refl refl y ys (refl, o, k) i (omega arith) (is_ready t a).enough h.var h.value (h.var 2) (h.var 3) refl
        (subst (λ (z : ℕ). At t.variables (after_turns i) s (record { others = h.var; values = h.value; link = h.link; first = z; second = h.var 2; third = h.var 3 })) e
        (begun t (after_turns i) s (is_ready t a) p))

    pub remove_first : n ≡ 1 → n ≤ c → (r : Edited) → EditedBy t first_turns r → Removes t n r
    remove_first z b r e =
        remove_by 0 z (omega arith) _ r e (λ a. first_out xs l.lists (let k = l.count in omega arith) a e.0 e.1)

    pub remove_after : 2 ≤ n → n ≤ c → (r : Edited) → EditedBy t (after_turns (n - 2)) r → Removes t n r
    remove_after z b r e =
        let n_is : n ≡ suc (suc (n - 2)) = omega arith in
        remove_by (suc (n - 2)) n_is (omega arith) _ r e (λ a. after_out xs l.lists (n - 2) (let k = l.count in omega arith) a e.0 e.1)

    -- a cell is put in
    module _ (b : n ≤ c) (r : Edited) (e : EditedBy t (insert_turns n) r) where
      abbrev s : Stepped
      s = e.0

      -- the turns after the first
      abbrev turns : List ℕ
      turns = once 5 3 1 ∷ once 3 1 3 ∷ times n 4 3 3 ∷ once 4 2 3 ∷ once 5 3 1 ∷ once 3 3 1 ∷ once 4 1 1 ∷ once 5 3 2 ∷ rest_turns

      few_6 : leb 3 t.variables ≡ false → operation t.variables 6 3 0 ≡ none
      few_6 z = rw z refl

      module _ (a : ready t ≡ true) where
        abbrev start : At t.variables (insert_turns n) s (spot_of h)
        start = begun t (insert_turns n) s (is_ready t a) e.1

        named : operation t.variables 6 3 0 ≡ some (new 3)
        named = rw (le-leb 3 t.variables (is_ready t a).enough) refl

        -- new by itself
        first : (u : Stepped) × Steps t 6 3 0 0 u × on_moved u.outcome (InTurn turns u.heap s) (s ≡ u)
        first = subst (λ (P : Type 0). P) (turn_is 1 6 3 0 turns (omega arith) (omega arith) (omega arith) t s) start.left

        is_new : first.0 ≡ perform t 0 (new 3)
        is_new = first.1.result ∙ by_name t.variables t (heap_at (spot_of h)) start.stands 6 3 0 (new 3) named

        full : leb 64 x ≡ true → edit_of s.outcome ≡ Err Full
        unfolding perform
        full z =
            let is : first.0 ≡ stays t (Refused step-refusal.Full) = is_new ∙ rw z refl in
            let same : s ≡ first.0 = subst (λ (o : Outcome). on_moved o (InTurn turns first.0.heap s) (s ≡ first.0)) (ap (λ (q : Stepped). q.outcome) is) first.2 in
            ap (λ (q : Stepped). edit_of q.outcome) (same ∙ is)

        free : leb 64 x ≡ false → h.link (cell x) ≡ nowhere
        unfolding perform
        free z = go (enabled? (new 3) x h) (is_new ∙ rw z refl)
          where
            go : (d : Dec (Enabled (new 3) x h)) → first.0 ≡ ite d (stays (table_after t (new 3) x) Moved) (stays t Blocked) → h.link (cell x) ≡ nowhere
            go (yes d) q = d
            go (no d) q = absurd (first.1.new_moves 3 named (ap (λ (u : Stepped). u.outcome) q))

        put_in : leb 64 x ≡ false → Done t.variables s (inserted n (cell x) xs h)
        put_in z =
            inserting.puts_in h.link refl refl (h.var 1) (cell x) xs l.lists (free z) (λ i. omega arith) (λ i. omega arith) (λ i. omega arith) n (let k = l.count in omega arith)
            (is_ready t a).enough h.var (update h.value (cell x) none) (h.var 2) refl (taken (is_ready t a).enough start z (free z)).at

      pub insert_by : Inserts t n r
      insert_by = go (ready t) refl (leb 64 x) refl
        where
          go : (o : Bool) → ready t ≡ o → (f : Bool) → leb 64 x ≡ f → Inserts t n r
          go false a f z =
              let back : r ≡ hands_back t IllFormed = edited_back r s IllFormed e.2 (unready t 6 0 turns s few_6 (omega arith) (omega arith) a e.1) in
              subst (Inserts t n) (sym back) (insert_unready n a)
          go true a true z =
              let back : r ≡ hands_back t Full = edited_back r s Full e.2 (full a z) in
              subst (Inserts t n) (sym back) (insert_back n Full (with_room b a true z))
          go true a false z =
              let d = made r (inserted n (cell x) xs h) s e.2 (put_in a z) in
              record {
                result = d.is ∙ with_room b a false z;
                formed = λ f. d.formed;
                met = m;
                inserts = λ w. (xs, l.found, d.heap, subst (PutsIn n (cell x) xs h) (sym d.heap) (puts_in h refl refl xs l.lists n (cell x) (λ i. omega arith) (free a z)));
              }

-- ---- the test of a table: 3 = 3 is refused exactly if it is not ready

abbrev pub goes_on : Outcome → Bool
goes_on Moved = true
goes_on Blocked = true
goes_on (Refused r) = false

pub probe : (t : Heap64) → goes_on (step_of t 1 3 3 0).outcome ≡ ready t
unfolding step_of perform
probe t = go (well_formed t) refl (leb 3 t.variables) refl
  where
    by_test : {P : Type 0} (d : Dec P) (u : Heap64) → goes_on (ite d (stays u Moved) (stays t Blocked)).outcome ≡ true
    by_test (yes d) u = refl
    by_test (no d) u = refl

    go : (f : Bool) → well_formed t ≡ f → (l : Bool) → leb 3 t.variables ≡ l → goes_on (step_of t 1 3 3 0).outcome ≡ ready t
    go false f l k = rw f refl
    go true f false k = rw (f, k) refl
    go true f true k = rw (f, k) (by_test (enabled? (equal 3 3) 0 (heap_of t)) (table_after t (equal 3 3) 0))
