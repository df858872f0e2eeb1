-- Where members and covers are refused.
use mathlib.Core.Bool.{Bool, true, false, not}
use mathlib.Core.List.Memᴰ
use mathlib.Core.List.{List, [], ◌∷◌, ◌++◌}
use mathlib.Core.Logic.{◌⊎◌, inl, inr}
use mathlib.Core.Option.{none, some}
use mathlib.Core.Path.{◌≡◌, refl, sym, ap, subst, subst₂, ◌∙◌}
use Prim.Native.Nat.{ℕ, zero, suc, ◌≤◌, ◌<◌}
use native.Mathlib.Omega.{arith}
use lib.Dec.{T, eqb}
use lib.ListN.{length, get_elem?}
use Rattle.lists.specs.List.{◌∈◌, Every, concat_map}
use Rattle.lists.proofs.List.{every_cons}
use Rattle.lists.proofs.Reflect.{r_eq}
use Rattle.heap.specs.Heap.{empty}
use Rattle.facts.specs.Facts.{FactsOf}
use Rattle.shape.specs.Shape.{size, Satisfies, AllBelow, InRange}
use Rattle.run.specs.Run.{Located}
use Rattle.lists.proofs.List.{element_mem}
use Rattle.cover.specs.Cover.{Cover, Avoids, AllHold}
use Rattle.cover.specs.Rules.{Breaks, First}
use Rattle.cover.specs.Test.{Answer, holds, broken, cover_answer}
use Rattle.format.specs.Parser.{broken_rule, Reason, refusal, parsed, fault, require, many, each, Buffer, read_as, ranged}
use Rattle.format.specs.Certificate.{Member, without_places, read_member, read_members, at_start, test_start, judge, read_cover, read_cover_by}
use Rattle.format.specs.Numbers.{cover_numbers}
use Rattle.format.specs.JobNumbers.{located_numbers}
use Rattle.format.specs.Conditions.{ImageForEach}
use Rattle.format.specs.JobBytes.{LocatedInRange}
use Rattle.format.proofs.Sequence.{Reads, done, more, reads_append}
use Rattle.format.proofs.Parsing.{not_fault, then, then_fault, require_sound, require_fault, Faulty, faulty_map, read_sound, read_fault, ranged_exact, many_exact, codes_exact, codes_fault}
use Rattle.format.proofs.Files.{located_exact}
use Rattle.format.proofs.Covers.{member_read, without_places_lem, r_start, r_avoids, judged_broken, cover_sound}

-- ---- members

module _ (s : Buffer) (version variables states : ℕ) where
  -- a member's place is where those before it end
  pub member_place : (k at : ℕ) (earlier : List Member) (m : Member) (later : List Member) (next : ℕ)
      → many k (read_member s version variables states) at ≡ parsed (earlier ++ (m ∷ later)) next
      → Reads s.bytes at (concat_map (located_numbers version) (without_places earlier)) m.first
  unfolding many
  member_place zero at [] m later next e = let z : ◌≡◌ {A = ℕ} 0 1 = cc in absurd (omega arith)
  member_place zero at (x ∷ xs) m later next e = let z : ◌≡◌ {A = ℕ} 0 1 = cc in absurd (omega arith)
  member_place (suc k) at [] m later next e =
      then (read_member s version variables states at) _
      (λ y a h₁. then (many k (read_member s version variables states) a) _
      (λ rest b h₂ r.
      let y_is : y ≡ m = cc in
      subst (Reads s.bytes at []) (sym (member_read s version variables states at y a h₁).1 ∙ ap (λ z. z.first) y_is) done)) e
  member_place (suc k) at (x ∷ xs) m later next e =
      then (read_member s version variables states at) _
      (λ y a h₁. then (many k (read_member s version variables states) a) _
      (λ rest b h₂ r.
      let y_is : y ≡ x = cc in
      let rest_is : rest ≡ xs ++ (m ∷ later) = cc in
      let (g, _) = (located_exact version s variables states).sound at y.located a (member_read s version variables states at y a h₁).0 in
      reads_append (rw y_is at g) (member_place k a xs m later b (rw rest_is at h₂)))) e

  pub member_first : (at : ℕ) (earlier : List Member) (m : Member) (later : List Member) (next : ℕ)
      → read_members s version variables states at ≡ parsed (earlier ++ (m ∷ later)) next
      → Reads s.bytes at (version ∷ length (without_places (earlier ++ (m ∷ later))) ∷ concat_map (located_numbers version) (without_places earlier)) m.first
  unfolding read_members
  member_first at earlier m later next =
      then (ranged s _ _ at) _
      (λ own a h₁. then (require (eqb own version) (refusal 20) 0 a) _
      (λ _ a' h. then (ranged s _ _ a') _
      (λ count b h₂ h₃.
      let (g₁, _) = (ranged_exact s _ _).sound at own a h₁ in
      let (same, a_is) = require_sound (eqb own version) (refusal 20) 0 a h in
      let own_is : own ≡ version = (r_eq own version).holds same in
      let (g₂, _) = (ranged_exact s _ _).sound a' count b h₂ in
      let (_, (long, _)) =
      (many_exact s (located_exact version s variables states) count).sound b (without_places (earlier ++ (m ∷ later))) next
      (without_places_lem s version variables states count b (earlier ++ (m ∷ later)) next h₃) in
      rw long
      (reads_append (subst₂ (λ (k e : ℕ). Reads s.bytes at (k ∷ []) e) own_is a_is g₁)
      (reads_append g₂ (member_place count b earlier m later next h₃))))))

module _ (version variables states start : ℕ) where
  -- the first member that fails the test
  pub record Failed (ms : List Member) (why : Reason) (place : ℕ) : Type 0 where
    pub earlier : List Member
    pub member : Member
    pub later : List Member
    pub all : ms ≡ earlier ++ (member ∷ later)
    pub why_is : refusal 8 ≡ why
    pub place_is : member.first ≡ place
    pub avoid : Every (Avoids start) (without_places earlier)
    pub state : member.located.state ≡ start
    pub satisfied : Satisfies empty member.located.shape

  not_not : (b : Bool) → ¬ T (not b) → T b
  not_not true n = tt
  not_not false n = n tt

  pub tests_fault : (ms : List Member) → Every (LocatedInRange version variables states) (without_places ms) → (at : ℕ) (why : Reason) (place : ℕ)
      → each (test_start start) ms at ≡ fault why place → Failed ms why place
  unfolding each
  tests_fault [] oks at why place e = absurd (not_fault [] at why place (sym e))
  tests_fault (m ∷ ms) oks at why place e =
      then_fault (test_start start m at) _
      (λ u a h₁. then_fault (each (test_start start) ms a) _ (λ us b h₂ r. absurd (not_fault (u ∷ us) b why place (sym r)))
      (λ h₂.
      let (t, _) = require_sound (not (at_start start m.located)) (refusal 8) m.first at h₁ in
      let f = tests_fault ms (λ l i. oks l (Memᴰ.tail i)) a why place h₂ in
      record {
        earlier = m ∷ f.earlier;
        member = f.member;
        later = f.later;
        all = ap (λ l. m ∷ l) f.all;
        why_is = f.why_is;
        place_is = f.place_is;
        avoid = every_cons (Avoids start) ((r_avoids version variables states start m.located ok).holds t) f.avoid;
        state = f.state;
        satisfied = f.satisfied;
      }))
      (λ h₁.
      let (k, q, t) = require_fault (not (at_start start m.located)) (refusal 8) m.first at h₁ in
      let (state, satisfied) = (r_start version variables states start m.located ok).holds (not_not (at_start start m.located) t) in
      record {
        earlier = [];
        member = m;
        later = ms;
        all = refl;
        why_is = k;
        place_is = q;
        avoid = λ l i. absurd (Memᴰ.not-nil i);
        state = state;
        satisfied = satisfied;
      }) e
    where
      ok : LocatedInRange version variables states m.located
      ok = oks m.located (Memᴰ.head refl)

-- ---- covers

-- a cover is refused for the rule that the answer of its test names
judge_fault : (a : Answer) (links first at : ℕ) {why : Reason} {place : ℕ} → judge a links first at ≡ fault why place
    → (rule : ℕ) × (name : ℕ) × (a ≡ broken rule name) × (broken_rule rule name ≡ why) × (first ≡ place)
judge_fault holds links first at {why} {place} e = absurd (not_fault links at why place (sym e))
judge_fault (broken rule name) links first at e = (rule, name, refl, cc, cc)

-- its facts are about its cells
abbrev pub FactsFit : Located → Type 0
FactsFit o = FactsOf (size o.shape) o.shape.facts

-- a number that is no member's
pub no_member : (l : List Located) (n : ℕ) → get_elem? l n ≡ none → length l ≤ n
no_member [] n e = omega arith
no_member (x ∷ l) zero e = let z : ◌≡◌ {A = ℕ} 0 1 = cc in absurd (omega arith)
no_member (x ∷ l) (suc n) e = let h = no_member l n e in omega arith

module _ (s : Buffer) (variables : ℕ) (ms : List Located) (oks : (m : Located) → m ∈ ms → InRange variables 12 m.shape) where
  -- the first cover that is refused
  pub record Stopped (os : List Located) (at : ℕ) (why : Reason) (place : ℕ) : Type 0 where
    pub done : List Located
    pub shape : Located
    pub later : List Located
    pub all : os ≡ done ++ (shape ∷ later)
    pub covers : List Cover
    pub mid : ℕ
    pub reads : Reads s.bytes at (concat_map cover_numbers covers) mid
    pub hold : AllHold ms covers done
    pub images : (c : Cover) → c ∈ covers → ImageForEach ms c
    pub refused : read_cover s ms shape mid ≡ fault why place

  pub covers_fault : (os : List Located) → Every FactsFit os → (at : ℕ) (why : Reason) (place : ℕ) → each (read_cover s ms) os at ≡ fault why place → Stopped os at why place
  unfolding each
  covers_fault [] fit at why place e = absurd (not_fault [] at why place (sym e))
  covers_fault (o ∷ os) fit at why place e =
      then_fault (read_cover s ms o at) _
      (λ u a h₁. then_fault (each (read_cover s ms) os a) _ (λ us b h₂ r. absurd (not_fault (u ∷ us) b why place (sym r)))
      (λ h₂.
      let (c, g, each-cell, (h, _)) = cover_sound s variables ms oks o (fit o (Memᴰ.head refl)) at h₁ in
      let f = covers_fault os (λ p i. fit p (Memᴰ.tail i)) a why place h₂ in
      record {
        done = o ∷ f.done;
        shape = f.shape;
        later = f.later;
        all = ap (λ l. o ∷ l) f.all;
        covers = c ∷ f.covers;
        mid = f.mid;
        reads = reads_append g f.reads;
        hold = (h, f.hold);
        images = every_cons (ImageForEach ms) each-cell f.images;
        refused = f.refused;
      }))
      (λ h₁.
      record {
        done = [];
        shape = o;
        later = os;
        all = refl;
        covers = [];
        mid = at;
        reads = Reads.done;
        hold = tt;
        images = λ c i. absurd (Memᴰ.not-nil i);
        refused = h₁;
      }) e

  -- the cover at a place is read up to `next`, though images may still be owed
  pub record Begun (o : Located) (at next : ℕ) : Type 0 where
    pub cover : Cover
    pub member : Located
    pub numbered : get_elem? ms cover.member ≡ some member
    pub below : AllBelow (size o.shape) cover.images
    pub reads : Reads s.bytes at (cover_numbers cover) next

  -- it reads, and this is the first rule that it breaks
  pub record Fails (o : Located) (at rule name : ℕ) : Type 0 where
    pub next : ℕ
    pub begun : Begun o at next
    pub images : length begun.cover.images ≡ size begun.member.shape
    pub first : First (Breaks begun.member begun.cover.images o) rule name

  -- the number at a place of it has to be below the limit
  pub data Due (o : Located) (at place limit : ℕ) : Type 0 where
    member_owed : at ≡ place → limit ≡ length ms → Due o at place limit
    image_owed : (c : Begun o at place) → length c.cover.images < size c.member.shape → limit ≡ size o.shape → Due o at place limit

  -- a number of the cover is refused, or the cover does not hold
  pub cover_fault : (o : Located) → FactsFit o → (at : ℕ) (why : Reason) (place : ℕ) → read_cover s ms o at ≡ fault why place
      → ((rule : ℕ) × (name : ℕ) × (broken_rule rule name ≡ why) × (at ≡ place) × Fails o at rule name) ⊎ ((limit : ℕ) × Due o at place limit × Faulty s (λ n. limit ≤ n) why place)
  unfolding read_cover_by
  cover_fault o fit at why place =
      then_fault (read_as s (get_elem? ms) at) _
      (λ m a h₁. then_fault (many _ (ranged s _ _) a) _
      (λ images b h₂ h₃.
      let (n, g₁, numbered) = read_sound s (get_elem? ms) at m a h₁ in
      let (g₂, (long, below)) = (codes_exact s _ _).sound a images b h₂ in
      let (rule, name, t, k, q) = judge_fault (cover_answer m images o) _ at b h₃ in
      let i = element_mem ms n m numbered in
      inl (
        rule,
        name,
        k,
        q,
        record {
          next = b;
          begun = record { cover = record { member = n; images = images }; member = m; numbered = numbered; below = below; reads = more g₁ g₂ };
          images = long;
          first = (judged_broken s variables ms oks m o images i long below fit rule name).0 t;
        },
      ))
      (λ h₂.
      let (n, g, numbered) = read_sound s (get_elem? ms) at m a h₁ in
      let (images, r, fewer, below, f) = codes_fault s (size m.shape) (size o.shape) a why place h₂ in
      let c : Begun o at place = record { cover = record { member = n; images = images }; member = m; numbered = numbered; below = below; reads = more g r } in
      inr (size o.shape, image_owed c fewer refl, f)))
      (λ h₁.
      let (q, f) = read_fault s (get_elem? ms) at why place h₁ in
      inr (length ms, member_owed q refl, rw (← q) (faulty_map s (λ n. no_member ms n) f)))
