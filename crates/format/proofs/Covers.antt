-- What the parsers of members and covers read.
use mathlib.Core.Bool.{not}
use mathlib.Core.List.Memᴰ
use mathlib.Core.List.{List, [], ◌∷◌}
use mathlib.Core.Logic.{◌↔◌}
use mathlib.Core.Path.{◌≡◌, refl, sym, ap, ap₂, subst, subst₂, ◌∙◌}
use Prim.Native.Nat.{ℕ, zero, suc, ◌+◌, ◌<◌}
use native.Mathlib.Omega.{arith}
use lib.Dec.{eqb}
use lib.ListN.{length, get_or, get_elem?}
use Rattle.lists.specs.List.{◌∈◌, Every, concat_map, sum}
use Rattle.lists.proofs.List.{every_cons, get_or_mem, mem_get_or}
use Rattle.lists.proofs.Reflect.{Reflect, r_eq, r_and, r_not, r_iff}
use Rattle.heap.specs.Heap.{empty}
use Rattle.heap.specs.Place.{cell}
use Rattle.graph.specs.Graph.{Embeds}
use Rattle.graph.proofs.Proper.{Closed}
use Rattle.facts.specs.Facts.{FactsOf}
use Rattle.shape.specs.Shape.{size, shape_graph, Satisfies, AllBelow, InRange}
use Rattle.shape.proofs.InRange.{in_range_closed}
use Rattle.run.specs.Run.{Located}
use Rattle.lists.proofs.List.{element_mem}
use Rattle.cover.specs.Cover.{Cover, Holds, Avoids, AllHold}
use Rattle.cover.specs.Lengths.{path_lengths}
use Rattle.cover.specs.Links.{mids, cover_links, links_of}
use Rattle.cover.specs.Rules.{Breaks, First}
use Rattle.cover.specs.Test.{image_map, Answer, holds, broken, cover_answer, links_followed}
use Rattle.cover.proofs.Answer.{answer_holds, answer_exactly}
use Rattle.cover.proofs.Links.{links_exact}
use Rattle.cover.proofs.Start.{empty_reflects}
use Rattle.format.specs.Parser.{broken_rule, refusal, parsed, require, many, each, Buffer, read_as, ranged}
use Rattle.format.specs.Job.{read_located}
use Rattle.format.specs.Certificate.{Member, without_places, read_member, read_members, at_start, test_start, judge, read_cover, read_cover_by}
use Rattle.format.specs.Numbers.{member_numbers, cover_numbers}
use Rattle.format.specs.Conditions.{ImageForEach, AllFit}
use Rattle.format.specs.JobBytes.{Between, LocatedInRange}
use Rattle.format.proofs.Sequence.{Reads, done, more, one, reads_none, reads_first, reads_append, reads_split}
use Rattle.format.proofs.Parsing.{not_fault, then, require_sound, require_complete, read_sound, read_complete, ranged_exact, many_exact, codes_exact}
use Rattle.format.proofs.Files.{located_exact}

-- ---- members

module _ (s : Buffer) (version variables states : ℕ) where
  -- a member is a state with a shape, and its place
  pub member_read : (at : ℕ) (m : Member) (next : ℕ) → read_member s version variables states at ≡ parsed m next
      → (read_located version s variables states at ≡ parsed m.located next) × (m.first ≡ at)
  unfolding read_member
  member_read at m next =
      then (read_located version s variables states at) _
      (λ l a h r.
      let m_is : record { first = at; located = l } ≡ m = cc in
      let next_is : a ≡ next = cc in
      rw (← m_is, ← next_is) (h, refl))

  pub without_places_lem : (k at : ℕ) (ms : List Member) (next : ℕ) → many k (read_member s version variables states) at ≡ parsed ms next
      → many k (read_located version s variables states) at ≡ parsed (without_places ms) next
  unfolding many
  without_places_lem zero at ms next e =
      let ms_is : [] ≡ ms = cc in
      let next_is : at ≡ next = cc in
      rw (← ms_is, ← next_is)
  without_places_lem (suc k) at ms next e =
      then (read_member s version variables states at) _
      (λ m a h₁. then (many k (read_member s version variables states) a) _
      (λ rest b h₂ r.
      let ms_is : m ∷ rest ≡ ms = cc in
      let next_is : b ≡ next = cc in
      rw (← ms_is, ← next_is) (rw ((member_read at m a h₁).0, without_places_lem k a rest b h₂)))) e

  with_places : (k at : ℕ) (ls : List Located) (next : ℕ) → many k (read_located version s variables states) at ≡ parsed ls next
      → (ms : List Member) × (without_places ms ≡ ls) × (many k (read_member s version variables states) at ≡ parsed ms next)
  unfolding many read_member
  with_places zero at ls next e =
      let ls_is : [] ≡ ls = cc in
      let next_is : at ≡ next = cc in
      ([], ls_is, ap (parsed []) next_is)
  with_places (suc k) at ls next e =
      then (read_located version s variables states at) _
      (λ l a h₁. then (many k (read_located version s variables states) a) _
      (λ rest b h₂ r₂.
      let (ms, same, h₃) = with_places k a rest b h₂ in
      let ls_is : l ∷ rest ≡ ls = cc in
      let next_is : b ≡ next = cc in
      let m : Member = record { first = at; located = l } in
      (m ∷ ms, ap (λ x. l ∷ x) same ∙ ls_is, rw (h₁, h₃) (ap (parsed (m ∷ ms)) next_is)))) e

  pub members_sound : (at : ℕ) (ms : List Member) (next : ℕ) → read_members s version variables states at ≡ parsed ms next
      → Reads s.bytes at (member_numbers version (without_places ms)) next × Between 1 512 (length (without_places ms))
      × Every (LocatedInRange version variables states) (without_places ms)
  unfolding read_members
  members_sound at ms next =
      then (ranged s _ _ at) _
      (λ own a h₁. then (require (eqb own version) (refusal 20) 0 a) _
      (λ u a' h. then (ranged s _ _ a') _
      (λ count b h₂ h₃.
      let (g₁, _) = (ranged_exact s _ _).sound at own a h₁ in
      let (same, a_is) = require_sound (eqb own version) (refusal 20) 0 a h in
      let own_is : own ≡ version = (r_eq own version).holds same in
      let (g₂, (low, high)) = (ranged_exact s _ _).sound a' count b h₂ in
      let (g₃, (long, oks)) = (many_exact s (located_exact version s variables states) count).sound b (without_places ms) next (without_places_lem count b ms next h₃) in
      (rw long (reads_append (subst₂ (λ (k e : ℕ). Reads s.bytes at (k ∷ []) e) own_is a_is g₁) (reads_append g₂ g₃)), (omega arith, omega arith), oks))))

  pub members_complete : (at : ℕ) (ls : List Located) (next : ℕ) → Reads s.bytes at (member_numbers version ls) next → Between 1 2 version → Between 1 512 (length ls)
      → Every (LocatedInRange version variables states) ls
      → (ms : List Member) × (without_places ms ≡ ls) × (read_members s version variables states at ≡ parsed ms next)
  unfolding read_members
  members_complete at ls next r (v_low, v_high) (low, high) oks =
      let (a, g₁, r₁) = reads_first r in
      let (b, g₂, g₃) = reads_first r₁ in
      let (ms, same, h) = with_places (length ls) b ls next ((many_exact s (located_exact version s variables states) (length ls)).complete b ls next g₃ (refl, oks)) in (
        ms,
        same,
        rw ((ranged_exact s 1 3).complete at version a (one g₁) (v_low, omega arith), require_complete (eqb version version) (refusal 20) 0 a ((r_eq version version).tests refl), (ranged_exact s 1 513).complete a (length ls) b (one g₂) (low, omega arith)) h,
      )

-- ---- refusal 8

module _ (version variables states start : ℕ) where
  pub r_start : (m : Located) → LocatedInRange version variables states m → Reflect ((m.state ≡ start) × Satisfies empty m.shape) (at_start start m)
  r_start m ok = r_and (r_eq m.state start) (empty_reflects variables 12 m.shape ok.shape)

  pub r_avoids : (m : Located) → LocatedInRange version variables states m → Reflect (Avoids start m) (not (at_start start m))
  r_avoids m ok = r_iff (λ n e t. n (e, t)) (λ n (e, t). n e t) (r_not (r_start m ok))

  pub tests_sound : (ms : List Member) → Every (LocatedInRange version variables states) (without_places ms) → (at : ℕ) {us : List (Unit {0})} {next : ℕ}
      → each (test_start start) ms at ≡ parsed us next → Every (Avoids start) (without_places ms) × (at ≡ next)
  unfolding each
  tests_sound [] oks at e = (λ m i. absurd (Memᴰ.not-nil i), cc)
  tests_sound (m ∷ ms) oks at e =
      then (test_start start m at) _
      (λ u a h₁. then (each (test_start start) ms a) _
      (λ us b h₂ r.
      let (t, at_is) = require_sound (not (at_start start m.located)) (refusal 8) m.first at h₁ in
      let (rest, a_is) = tests_sound ms (λ l i. oks l (Memᴰ.tail i)) a h₂ in
      (every_cons (Avoids start) ((r_avoids m.located (oks m.located (Memᴰ.head refl))).holds t) rest, cc))) e

  pub tests_complete : (ms : List Member) → Every (LocatedInRange version variables states) (without_places ms) → (at : ℕ) → Every (Avoids start) (without_places ms)
      → (us : List (Unit {0})) × (each (test_start start) ms at ≡ parsed us at)
  unfolding each
  tests_complete [] oks at h = ([], refl)
  tests_complete (m ∷ ms) oks at h =
      let (us, r) = tests_complete ms (λ l i. oks l (Memᴰ.tail i)) at (λ l i. h l (Memᴰ.tail i)) in
      let t = (r_avoids m.located (oks m.located (Memᴰ.head refl))).tests (h m.located (Memᴰ.head refl)) in
      (tt ∷ us, rw (require_complete (not (at_start start m.located)) (refusal 8) m.first at t, r))

-- ---- covers

-- a cover goes through exactly if it holds
pub judge_sound : (a : Answer) (links first at : ℕ) {n next : ℕ} → judge a links first at ≡ parsed n next → (a ≡ holds) × (links ≡ n) × (at ≡ next)
judge_sound holds links first at e = (refl, cc, cc)
judge_sound (broken rule name) links first at {n} {next} e = absurd (not_fault n next (broken_rule rule name) first e)

-- the images of a cover that holds are below the number of cells of the covered shape
pub images_below : (ms : List Located) (o : Located) (c : Cover) → Holds ms c o → ImageForEach ms c → AllBelow (size o.shape) c.images
images_below ms o c h each-cell x k =
    let long = each-cell h.member h.numbered in
    let (j, b, e) = mem_get_or c.images x k in
    let (_, q) = h.embeds.images.cells (cell j) (omega arith, omega arith) in
    omega arith

-- covers that hold fit
pub hold_fit : (ms : List Located) (cs : List Cover) (os : List Located) → Every (ImageForEach ms) cs → AllHold ms cs os → AllFit ms cs os
hold_fit ms [] [] images hold = tt
hold_fit ms [] (o ∷ os) images hold = hold
hold_fit ms (c ∷ cs) [] images hold = hold
hold_fit ms (c ∷ cs) (o ∷ os) images (k, ks) =
    let each = images c (Memᴰ.head refl) in (
      record { member = k.member; numbered = k.numbered; long = each k.member k.numbered; below = images_below ms o c k each },
      hold_fit ms cs os (λ d i. images d (Memᴰ.tail i)) ks,
    )

module _ (s : Buffer) (variables : ℕ) (ms : List Located) (oks : (m : Located) → m ∈ ms → InRange variables 12 m.shape) where
  -- the member and the images of a cover that reads are such that its test's answer means what it says
  module _ (m o : Located) (images : List ℕ) (i : m ∈ ms) (long : length images ≡ size m.shape) (below : AllBelow (size o.shape) images)
      (of-covered : FactsOf (size o.shape) o.shape.facts) where
    closed : Closed (shape_graph m.shape)
    closed = in_range_closed variables 12 m.shape (oks m i)

    in_range : (k : ℕ) → k < size m.shape → get_or images k 0 < size o.shape
    in_range k b = below (get_or images k 0) (get_or_mem images k (omega arith))

    pub judged_holds : (cover_answer m images o ≡ holds) ↔ ((m.state ≡ o.state) × Embeds (shape_graph m.shape) (shape_graph o.shape) (image_map images))
    judged_holds = answer_holds m images o closed long in_range (oks m i).facts of-covered

    -- and the links followed are those of the embedding
    links_are : (e : Embeds (shape_graph m.shape) (shape_graph o.shape) (image_map images))
        → links_followed m.shape o.shape images ≡ path_lengths m.shape (mids e)
    links_are = links_exact m.shape o.shape images closed long

    pub judged_broken : (rule name : ℕ) → (cover_answer m images o ≡ broken rule name) ↔ First (Breaks m images o) rule name
    judged_broken rule name = answer_exactly m images o closed long in_range (oks m i).facts of-covered (broken rule name)

  pub cover_sound : (o : Located) → FactsOf (size o.shape) o.shape.facts → (at : ℕ) {links next : ℕ} → read_cover s ms o at ≡ parsed links next
      → (c : Cover) × Reads s.bytes at (cover_numbers c) next × ImageForEach ms c × ((h : Holds ms c o) × (links ≡ cover_links h))
  unfolding read_cover_by
  cover_sound o of at {links} {next} =
      then (read_as s (get_elem? ms) at) _
      (λ m a h₁. then (many _ (ranged s _ _) a) _
      (λ images b h₂ h₃.
      let (n, g₁, numbered) = read_sound s (get_elem? ms) at m a h₁ in
      let i = element_mem ms n m numbered in
      let (g₂, (long, below)) = (codes_exact s _ _).sound a images b h₂ in
      let (t, links_is, next_is) = judge_sound (cover_answer m images o) _ at b h₃ in
      let (state, embeds) = (judged_holds m o images i long below of).0 t in (
        record { member = n; images = images },
        rw (← next_is) (more g₁ g₂),
        (λ m' e. let m_is : m ≡ m' = cc in rw (← m_is) long),
        (record { member = m; numbered = numbered; state = state; embeds = embeds }, sym links_is ∙ links_are m o images i long below of embeds),
      )))

  cover_complete : (o : Located) → FactsOf (size o.shape) o.shape.facts → (at next : ℕ) (c : Cover) → Reads s.bytes at (cover_numbers c) next → ImageForEach ms c → (h : Holds ms c o)
      → read_cover s ms o at ≡ parsed (cover_links h) next
  unfolding read_cover_by
  cover_complete o of at next c r each-cell h =
      let m = h.member in
      let i = element_mem ms c.member m h.numbered in
      let long = each-cell m h.numbered in
      let below = images_below ms o c h each-cell in
      let (a, g₁, g₂) = reads_first r in
      rw (
        read_complete s (get_elem? ms) at c.member a m g₁ h.numbered,
        (codes_exact s (size m.shape) (size o.shape)).complete a c.images next g₂ (long, below),
        (judged_holds m o c.images i long below of).1 (h.state, h.embeds),
        links_are m o c.images i long below of h.embeds,
      )

  -- the covers that are read, and the links followed for each
  pub covers_sound : (os : List Located) → Every (λ o. FactsOf (size o.shape) o.shape.facts) os → (at : ℕ) {ls : List ℕ} {next : ℕ} → each (read_cover s ms) os at ≡ parsed ls next
      → (cs : List Cover) × Reads s.bytes at (concat_map cover_numbers cs) next × Every (ImageForEach ms) cs
      × ((hold : AllHold ms cs os) × (sum ls ≡ links_of ms cs os hold))
  unfolding each
  covers_sound [] ofs at {ls} {next} e =
      let next_is : at ≡ next = cc in
      let ls_is : [] ≡ ls = cc in
      ([], rw (← next_is) done, (λ c i. absurd (Memᴰ.not-nil i)), (tt, rw (← ls_is) refl))
  covers_sound (o ∷ os) ofs at {ls} {next} e =
      then (read_cover s ms o at) _
      (λ l a h₁. then (each (read_cover s ms) os a) _
      (λ rest b h₂ r.
      let (c, g₁, images, (h, l_is)) = cover_sound o (ofs o (Memᴰ.head refl)) at h₁ in
      let (cs, g₂, all-images, (hs, rest_is)) = covers_sound os (λ p i. ofs p (Memᴰ.tail i)) a h₂ in
      let next_is : b ≡ next = cc in
      let ls_is : l ∷ rest ≡ ls = cc in
      let g = subst (Reads s.bytes at (concat_map cover_numbers (c ∷ cs))) next_is (reads_append g₁ g₂) in
      (c ∷ cs, g, every_cons (ImageForEach ms) images all-images, ((h, hs), rw (← ls_is) (ap₂ ◌+◌ l_is rest_is))))) e

  pub covers_complete : (os : List Located) → Every (λ o. FactsOf (size o.shape) o.shape.facts) os → (cs : List Cover) (at next : ℕ) → Reads s.bytes at (concat_map cover_numbers cs) next
      → Every (ImageForEach ms) cs → (hold : AllHold ms cs os)
      → (ls : List ℕ) × (each (read_cover s ms) os at ≡ parsed ls next) × (sum ls ≡ links_of ms cs os hold)
  unfolding each
  covers_complete [] ofs [] at next r images hold = ([], ap (parsed []) (reads_none r), refl)
  covers_complete [] ofs (c ∷ cs) at next r images hold = absurd hold
  covers_complete (o ∷ os) ofs [] at next r images hold = absurd hold
  covers_complete (o ∷ os) ofs (c ∷ cs) at next r images (h, hs) =
      let (mid, g₁, g₂) = reads_split (cover_numbers c) r in
      let (ls, e, all) = covers_complete os (λ p i. ofs p (Memᴰ.tail i)) cs mid next g₂ (λ d i. images d (Memᴰ.tail i)) hs in
      (cover_links h ∷ ls, rw (cover_complete o (ofs o (Memᴰ.head refl)) at mid c g₁ (images c (Memᴰ.head refl)) h, e), ap (λ (n : ℕ). cover_links h + n) all)
