-- Changes of a table: the heap that it then stands for, and that it stays well formed.
use mathlib.Core.Bool.{Bool, true, false}
use mathlib.Core.List.{List, [], ◌∷◌, map}
use mathlib.Core.Logic.{if_pos, if_neg, ◌≢◌}
use mathlib.Core.Option.{none}
use mathlib.Core.Path.{◌≡◌, refl, sym, ap, ap₂, ◌∙◌, fun_ext}
use Prim.Native.Nat.{ℕ, zero, suc, ◌≤◌, ◌<◌}
use native.Mathlib.Decide.{ℕ_discrete, dec_lt}
use native.Mathlib.Omega.{arith}
use borrow.Author.Tests.{le-leb, lt-ltb, le-ltb, eq-eqb, ne_eqb}
use lib.ListN.{length, get_or, set, length-set, length-map, get_or-map}
use lib.Seq.{get_or-set_same, get_or-set_other}
use Rattle.heap.specs.Codes.{var_in, link_in}
use Rattle.heap.specs.Heap.{update}
use Rattle.heap.specs.Operation.{dangled, write}
use Rattle.heap.specs.Place.{nowhere, dangling, cell}
use Rattle.place.specs.Place.{place_of, codes}
use Rattle.place.specs.declared.Place.{Place}
use Rattle.stepper.specs.InPlace.{with_var, with_link}
use Rattle.stepper.specs.Table.{heap_of, Sized, value_of, code_in, most_code, standing, slot_fits, cell_fits, value_fits, dangle_place}
use Rattle.stepper.specs.declared.Heap64.{Heap64}
use Rattle.stepper.proofs.Formed.{Formed, var_stands, slot_empty, link_stands, link_empty, code_most, code_unused}
use Rattle.heap.proofs.Codes.{by_code}
use Rattle.heap.proofs.Update.{by_update, heap_path}

-- ---- lists of codes

codes_set : (l : List Place) (i : ℕ) (p : Place) → codes (set l i p) ≡ set (codes l) i p.code
codes_set [] i p = refl
codes_set (x ∷ l) zero p = refl
codes_set (x ∷ l) (suc i) p = ap (λ r. x.code ∷ r) (codes_set l i p)

var_set : (l : List ℕ) (v p : ℕ) → v < length l → (u : ℕ) → var_in (set l v p) u ≡ update (var_in l) (suc v) p u
var_set l v p h zero = by_update (var_in l) (suc v) p zero _ (λ e. absurd (omega arith)) (λ n. refl)
var_set l v p h (suc u) =
    by_update (var_in l) (suc v) p (suc u) _
    (λ e. ap (λ (k : ℕ). get_or (set l v p) k nowhere) (omega arith) ∙ get_or-set_same l v p nowhere h)
    (λ n. get_or-set_other l v u p nowhere (λ e. n (ap suc e)))

link_set : (l : List ℕ) (i p : ℕ) → i < length l → (q : ℕ) → link_in (set l i p) q ≡ update (link_in l) (cell i) p q
link_set l i p h =
    by_code (λ q. link_in (set l i p) q ≡ update (link_in l) (cell i) p q)
    (by_update (link_in l) (cell i) p 0 _ (λ e. absurd (omega arith)) (λ n. refl))
    (by_update (link_in l) (cell i) p 1 _ (λ e. absurd (omega arith)) (λ n. refl))
    (by_update (link_in l) (cell i) p 2 _ (λ e. absurd (omega arith)) (λ n. refl))
    (λ j. by_update (link_in l) (cell i) p (cell j) _
    (λ e. ap (λ (k : ℕ). get_or (set l i p) k nowhere) (omega arith) ∙ get_or-set_same l i p nowhere h)
    (λ n. get_or-set_other l i j p nowhere (λ e. n (ap cell e))))

value_set : (l : List ℕ) (i c : ℕ) → i < length l → (q : ℕ) → value_of (code_in (set l i c) q) ≡ update (λ p. value_of (code_in l p)) (cell i) (value_of c) q
value_set l i c h q =
    by_update (λ p. value_of (code_in l p)) (cell i) (value_of c) q _
    (λ e. ap value_of (link_set l i c h q ∙ if_pos (ℕ_discrete q (cell i)) e c (code_in l q)))
    (λ n. ap value_of (link_set l i c h q ∙ if_neg (ℕ_discrete q (cell i)) n c (code_in l q)))

-- ---- which places stand

-- a used cell more
standing_more : (used : List Bool) (i : ℕ) → i < length used → (p : ℕ) → standing used p ≡ true → standing (set used i true) p ≡ true
unfolding standing
standing_more used i h =
    by_code (λ p. standing used p ≡ true → standing (set used i true) p ≡ true) (λ s. s) (λ s. refl) (λ s. refl) (λ j s. go j s (ℕ_discrete j i))
  where
    go : (j : ℕ) → get_or used j false ≡ true → Dec (j ≡ i) → get_or (set used i true) j false ≡ true
    go j s (yes e) = rw e (get_or-set_same used i true false h)
    go j s (no n) = get_or-set_other used i j true false n ∙ s

-- the cell i no more, and what stood at it at *
standing_less : (used : List Bool) (i : ℕ) → (p : ℕ) → standing used p ≡ true → standing (set used i false) (dangled (cell i) p) ≡ true
unfolding standing
standing_less used i p s = go p s (ℕ_discrete p (cell i))
  where
    other : (p : ℕ) → standing used p ≡ true → p ≢ cell i → standing (set used i false) p ≡ true
    other =
        by_code (λ p. standing used p ≡ true → p ≢ cell i → standing (set used i false) p ≡ true) (λ s n. s) (λ s n. refl) (λ s n. refl)
        (λ j s n. get_or-set_other used i j false false (λ e. n (ap cell e)) ∙ s)

    go : (p : ℕ) → standing used p ≡ true → Dec (p ≡ cell i) → standing (set used i false) (dangled (cell i) p) ≡ true
    go p s (yes e) = rw (if_pos (ℕ_discrete p (cell i)) e dangling p) refl
    go p s (no n) = rw (if_neg (ℕ_discrete p (cell i)) n dangling p) (other p s n)

standing_dangling : (used : List Bool) → standing used dangling ≡ true
unfolding standing
standing_dangling used = refl

-- ---- a slot is right, a cell is right

module _ (t : Heap64) (i : ℕ) where
  slot_var : standing t.used (get_or (codes t.vars) i nowhere) ≡ true → i < t.variables → slot_fits t i ≡ true
  slot_var s h = simp (lt-ltb i t.variables h) s

  slot_none : get_or (codes t.vars) i nowhere ≡ nowhere → t.variables ≤ i → slot_fits t i ≡ true
  slot_none e h = simp (le-ltb i t.variables h, eq-eqb (get_or (codes t.vars) i nowhere) nowhere e)

  cell_used : get_or t.used i false ≡ true → standing t.used (get_or (codes t.links) i nowhere) ≡ true → cell_fits t i ≡ true
  cell_used u s = simp u s

  cell_free : get_or t.used i false ≡ false → get_or (codes t.links) i nowhere ≡ nowhere → cell_fits t i ≡ true
  cell_free u e = simp (u, eq-eqb (get_or (codes t.links) i nowhere) nowhere e)

-- ---- a list of places with one changed

module _ (l : List Place) (i : ℕ) (p : Place) where
  set_at : i < length l → get_or (codes (set l i p)) i nowhere ≡ p.code
  set_at h = rw (codes_set l i p) (get_or-set_same (codes l) i p.code nowhere (omega (arith, length-map l (λ (q : Place). q.code))))

  set_off : (j : ℕ) → j ≢ i → get_or (codes (set l i p)) j nowhere ≡ get_or (codes l) j nowhere
  set_off j n = rw (codes_set l i p) (get_or-set_other (codes l) i j p.code nowhere n)

-- ---- a variable put at a place

module _ (t : Heap64) (s : Sized t) (v : ℕ) (p : Place) where
  pub sized_with_var : Sized (with_var t v p)
  sized_with_var = record { vars = length-set t.vars v p ∙ s.vars; used = s.used; links = s.links; values = s.values }

  pub heap_with_var : v < 8 → heap_of (with_var t v p) ≡ record { link = (heap_of t).link; var = update (heap_of t).var (suc v) p.code; value = (heap_of t).value }
  heap_with_var h =
      heap_path (λ q. refl)
      (λ u. ap (λ (l : List ℕ). var_in l u) (codes_set t.vars v p)
      ∙ var_set (codes t.vars) v p.code (omega (arith, s.vars, length-map t.vars (λ (q : Place). q.code))) u)
      (λ q. refl)

  pub formed_with_var : Formed t → v < t.variables → standing t.used p.code ≡ true → Formed (with_var t v p)
  formed_with_var f h st =
      record {
        some = f.some;
        most = f.most;
        slots = λ i b. slot i b (dec_lt i t.variables) (ℕ_discrete i v);
        cells = f.cells;
        values = f.values;
      }
    where
      slot : (i : ℕ) → i < 8 → Dec (i < t.variables) → Dec (i ≡ v) → slot_fits (with_var t v p) i ≡ true
      slot i b (yes k) (yes e) =
          slot_var (with_var t v p) i (rw (e, set_at t.vars v p (omega (arith, s.vars, f.most))) st) k
      slot i b (yes k) (no n) = slot_var (with_var t v p) i (rw (set_off t.vars v p i n) (var_stands t f i k)) k
      slot i b (no k) d =
          slot_none (with_var t v p) i (set_off t.vars v p i (omega arith) ∙ slot_empty t f i (omega arith) b) (omega arith)

-- ---- the link of a used cell put at a place

module _ (t : Heap64) (s : Sized t) (i : ℕ) (p : Place) where
  pub sized_with_link : Sized (with_link t i p)
  sized_with_link = record { vars = s.vars; used = s.used; links = length-set t.links i p ∙ s.links; values = s.values }

  pub heap_with_link : i < 64
      → heap_of (with_link t i p) ≡ record { link = update (heap_of t).link (cell i) p.code; var = (heap_of t).var; value = (heap_of t).value }
  heap_with_link h =
      heap_path
      (λ q. ap (λ (l : List ℕ). link_in l q) (codes_set t.links i p)
      ∙ link_set (codes t.links) i p.code (omega (arith, s.links, length-map t.links (λ (q : Place). q.code))) q)
      (λ u. refl) (λ q. refl)

  pub formed_with_link : Formed t → i < 64 → get_or t.used i false ≡ true → standing t.used p.code ≡ true → Formed (with_link t i p)
  formed_with_link f h u st =
      record {
        some = f.some;
        most = f.most;
        slots = f.slots;
        cells = λ j b. fits j b (ℕ_discrete j i) (get_or t.used j false) refl;
        values = f.values;
      }
    where
      fits : (j : ℕ) → j < 64 → Dec (j ≡ i) → (v : Bool) → get_or t.used j false ≡ v → cell_fits (with_link t i p) j ≡ true
      fits j b (yes e) v k = cell_used (with_link t i p) j (rw e u) (rw (e, set_at t.links i p (omega (arith, s.links))) st)
      fits j b (no n) true k = cell_used (with_link t i p) j k (rw (set_off t.links i p j n) (link_stands t f j b k))
      fits j b (no n) false k = cell_free (with_link t i p) j k (set_off t.links i p j n ∙ link_empty t f j b k)

-- ---- the value of a used cell, by its code

abbrev pub with_value : Heap64 → ℕ → ℕ → Heap64
with_value t i c = record { variables = t.variables; vars = t.vars; used = t.used; links = t.links; values = set t.values i c }

module _ (t : Heap64) (s : Sized t) (i c : ℕ) where
  pub sized_with_value : Sized (with_value t i c)
  sized_with_value = record { vars = s.vars; used = s.used; links = s.links; values = length-set t.values i c ∙ s.values }

  pub heap_with_value : i < 64 → heap_of (with_value t i c) ≡ write (heap_of t) (cell i) (value_of c)
  heap_with_value h = heap_path (λ q. refl) (λ u. refl) (value_set t.values i c (omega (arith, s.values)))

  pub formed_with_value : Formed t → i < 64 → get_or t.used i false ≡ true → c ≤ 65536 → Formed (with_value t i c)
  formed_with_value f h u l =
      record { some = f.some; most = f.most; slots = f.slots; cells = f.cells; values = λ j b. fits j b (ℕ_discrete j i) }
    where
      fits : (j : ℕ) → j < 64 → Dec (j ≡ i) → value_fits (with_value t i c) j ≡ true
      fits j b (yes e) = rw (e, u, get_or-set_same t.values i c 0 (omega (arith, s.values))) (le-leb c 65536 l)
      fits j b (no n) = rw (get_or-set_other t.values i j c 0 n) (f.values j b)

-- ---- a cell taken, linked to *; an unused cell has no value

abbrev pub with_cell : Heap64 → ℕ → Heap64
with_cell t i =
    record {
      variables = t.variables;
      vars = t.vars;
      used = set t.used i true;
      links = set t.links i (place_of dangling);
      values = t.values;
    }

module _ (t : Heap64) (s : Sized t) (i : ℕ) where
  pub sized_with_cell : Sized (with_cell t i)
  sized_with_cell =
      record {
        vars = s.vars;
        used = length-set t.used i true ∙ s.used;
        links = length-set t.links i (place_of dangling) ∙ s.links;
        values = s.values;
      }

  pub heap_with_cell : Formed t → i < 64 → get_or t.used i false ≡ false
      → heap_of (with_cell t i)
      ≡ record { link = update (heap_of t).link (cell i) dangling; var = (heap_of t).var; value = update (heap_of t).value (cell i) none }
  heap_with_cell f h u =
      heap_path (λ q k. (heap_with_link t s i (place_of dangling) h k).link q) (λ v. refl)
      (λ q. by_update (heap_of t).value (cell i) none q _ (λ e. ap (heap_of t).value e ∙ ap value_of (code_unused t f i h u)) (λ n. refl))

  pub formed_with_cell : Formed t → i < 64 → Formed (with_cell t i)
  formed_with_cell f h =
      record {
        some = f.some;
        most = f.most;
        slots = λ j b. slot j b (dec_lt j t.variables);
        cells = λ j b. fits j b (ℕ_discrete j i) (get_or t.used j false) refl;
        values = λ j b. value j b (ℕ_discrete j i);
      }
    where
      value : (j : ℕ) → j < 64 → Dec (j ≡ i) → value_fits (with_cell t i) j ≡ true
      value j b (yes e) =
          rw (e, get_or-set_same t.used i true false (omega (arith, s.used))) (le-leb (get_or t.values i 0) 65536 (code_most t f i h))
      value j b (no n) = rw (get_or-set_other t.used i j true false n) (f.values j b)

      more : (p : ℕ) → standing t.used p ≡ true → standing (set t.used i true) p ≡ true
      more = standing_more t.used i (omega (arith, s.used))

      slot : (j : ℕ) → j < 8 → Dec (j < t.variables) → slot_fits (with_cell t i) j ≡ true
      slot j b (yes k) = slot_var (with_cell t i) j (more _ (var_stands t f j k)) k
      slot j b (no k) = slot_none (with_cell t i) j (slot_empty t f j (omega arith) b) (omega arith)

      fits : (j : ℕ) → j < 64 → Dec (j ≡ i) → (v : Bool) → get_or t.used j false ≡ v → cell_fits (with_cell t i) j ≡ true
      fits j b (yes e) v k =
          cell_used (with_cell t i) j (rw e (get_or-set_same t.used i true false (omega (arith, s.used))))
          (rw (e, set_at t.links i (place_of dangling) (omega (arith, s.links))) (more dangling (standing_dangling t.used)))
      fits j b (no n) true k =
          cell_used (with_cell t i) j (get_or-set_other t.used i j true false n ∙ k)
          (rw (set_off t.links i (place_of dangling) j n) (more _ (link_stands t f j b k)))
      fits j b (no n) false k =
          cell_free (with_cell t i) j (get_or-set_other t.used i j true false n ∙ k)
          (set_off t.links i (place_of dangling) j n ∙ link_empty t f j b k)

-- ---- a cell given back: what stood at it stands at *

abbrev pub without_cell : Heap64 → ℕ → Heap64
without_cell t i =
    record {
      variables = t.variables;
      vars = map (dangle_place (cell i)) t.vars;
      used = set t.used i false;
      links = set (map (dangle_place (cell i)) t.links) i (place_of nowhere);
      values = set t.values i 0;
    }

dangle_code : (y : ℕ) (p : Place) → (dangle_place y p).code ≡ dangled y p.code
dangle_code y p = go (ℕ_discrete p.code y)
  where
    go : Dec (p.code ≡ y) → (dangle_place y p).code ≡ dangled y p.code
    go (yes e) = rw (eq-eqb p.code y e) (sym (if_pos (ℕ_discrete p.code y) e dangling p.code))
    go (no n) = rw (ne_eqb p.code y n) (sym (if_neg (ℕ_discrete p.code y) n dangling p.code))

dangle_codes : (y : ℕ) (l : List Place) → codes (map (dangle_place y) l) ≡ map (dangled y) (codes l)
dangle_codes y [] = refl
dangle_codes y (p ∷ l) = ap₂ ◌∷◌ (dangle_code y p) (dangle_codes y l)

module _ (i : ℕ) where
  low_kept : (p : ℕ) → p < 3 → dangled (cell i) p ≡ p
  low_kept p h = if_neg (ℕ_discrete p (cell i)) (omega arith) dangling p

  dangle_at : (l : List Place) (j : ℕ) → get_or (codes (map (dangle_place (cell i)) l)) j nowhere ≡ dangled (cell i) (get_or (codes l) j nowhere)
  dangle_at l j =
      rw dangle_codes
      (ap (λ (d : ℕ). get_or (map (dangled (cell i)) (codes l)) j d) (sym (low_kept nowhere (omega arith)))
      ∙ get_or-map (dangled (cell i)) (codes l) j nowhere)

  dangle_vars : (l : List Place) (u : ℕ) → var_in (codes (map (dangle_place (cell i)) l)) u ≡ dangled (cell i) (var_in (codes l) u)
  dangle_vars l zero = sym (low_kept 1 (omega arith))
  dangle_vars l (suc u) = dangle_at l u

  dangle_links_lem : (l : List Place) (q : ℕ) → link_in (codes (map (dangle_place (cell i)) l)) q ≡ dangled (cell i) (link_in (codes l) q)
  dangle_links_lem l =
      by_code (λ q. link_in (codes (map (dangle_place (cell i)) l)) q ≡ dangled (cell i) (link_in (codes l) q))
      (sym (low_kept 0 (omega arith))) (sym (low_kept 0 (omega arith))) (sym (low_kept 0 (omega arith))) (dangle_at l)

module _ (t : Heap64) (s : Sized t) (i : ℕ) where
  pub sized_without : Sized (without_cell t i)
  sized_without =
      record {
        vars = length-map t.vars (dangle_place (cell i)) ∙ s.vars;
        used = length-set t.used i false ∙ s.used;
        links = length-set (map (dangle_place (cell i)) t.links) i (place_of nowhere) ∙ length-map t.links (dangle_place (cell i)) ∙ s.links;
        values = length-set t.values i 0 ∙ s.values;
      }

  pub heap_without : i < 64
      → heap_of (without_cell t i)
      ≡ record {
        link = update (λ p. dangled (cell i) ((heap_of t).link p)) (cell i) nowhere;
        var = λ v. dangled (cell i) ((heap_of t).var v);
        value = update (heap_of t).value (cell i) none;
      }
  heap_without h =
      heap_path
      (λ q. ap (λ (l : List ℕ). link_in l q) (codes_set (map (dangle_place (cell i)) t.links) i (place_of nowhere))
      ∙ link_set (codes (map (dangle_place (cell i)) t.links)) i nowhere
      (omega (arith, s.links, length-map (map (dangle_place (cell i)) t.links) (λ (q : Place). q.code), length-map t.links (dangle_place (cell i)))) q
      ∙ ap (λ (g : ℕ → ℕ). update g (cell i) nowhere q) (fun_ext (dangle_links_lem i t.links)))
      (dangle_vars i t.vars) (value_set t.values i 0 (omega (arith, s.values)))

  pub formed_without : Formed t → i < 64 → Formed (without_cell t i)
  formed_without f h =
      record {
        some = f.some;
        most = f.most;
        slots = λ j b. slot j b (dec_lt j t.variables);
        cells = λ j b. fits j b (ℕ_discrete j i) (get_or t.used j false) refl;
        values = λ j b. value j b (ℕ_discrete j i);
      }
    where
      value : (j : ℕ) → j < 64 → Dec (j ≡ i) → value_fits (without_cell t i) j ≡ true
      value j b (yes e) =
          rw (e, get_or-set_same t.values i 0 0 (omega (arith, s.values))) (le-leb 0 (most_code (get_or (set t.used i false) i false)) (omega arith))
      value j b (no n) = rw (get_or-set_other t.values i j 0 0 n, get_or-set_other t.used i j false false n) (f.values j b)

      links : List Place
      links = map (dangle_place (cell i)) t.links

      slot : (j : ℕ) → j < 8 → Dec (j < t.variables) → slot_fits (without_cell t i) j ≡ true
      slot j b (yes k) =
          slot_var (without_cell t i) j (rw (dangle_at i t.vars j) (standing_less t.used i _ (var_stands t f j k))) k
      slot j b (no k) =
          slot_none (without_cell t i) j
          (dangle_at i t.vars j ∙ ap (dangled (cell i)) (slot_empty t f j (omega arith) b) ∙ low_kept i nowhere (omega arith)) (omega arith)

      off : (j : ℕ) → j ≢ i → get_or (codes (set links i (place_of nowhere))) j nowhere ≡ dangled (cell i) (get_or (codes t.links) j nowhere)
      off j n = set_off links i (place_of nowhere) j n ∙ dangle_at i t.links j

      fits : (j : ℕ) → j < 64 → Dec (j ≡ i) → (v : Bool) → get_or t.used j false ≡ v → cell_fits (without_cell t i) j ≡ true
      fits j b (yes e) v k =
          cell_free (without_cell t i) j (rw e (get_or-set_same t.used i false false (omega (arith, s.used))))
          (rw e (set_at links i (place_of nowhere) (omega (arith, s.links, length-map t.links (dangle_place (cell i))))))
      fits j b (no n) true k =
          cell_used (without_cell t i) j (get_or-set_other t.used i j false false n ∙ k)
          (rw (off j n) (standing_less t.used i _ (link_stands t f j b k)))
      fits j b (no n) false k =
          cell_free (without_cell t i) j (get_or-set_other t.used i j false false n ∙ k)
          (off j n ∙ ap (dangled (cell i)) (link_empty t f j b k) ∙ low_kept i nowhere (omega arith))
