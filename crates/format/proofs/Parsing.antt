-- What a parser reads, and that it reads it.
use mathlib.Core.Bool.{Bool, true, false, cond}
use mathlib.Core.List.Memᴰ
use mathlib.Core.List.{List, [], ◌∷◌}
use mathlib.Core.Option.{Option, none, some}
use mathlib.Core.Logic.{◌⊎◌, inl, inr}
use mathlib.Core.Path.{◌≡◌, refl, sym, ap, ap₂, subst, ◌∙◌}
use Prim.Native.Nat.{ℕ, zero, suc, ◌≤◌, ◌<◌}
use native.Mathlib.Omega.{arith}
use lib.Dec.{T}
use lib.ListN.{length}
use Rattle.lists.specs.List.{Every, concat_map}
use Rattle.lists.proofs.List.{every_cons}
use Rattle.lists.proofs.Reflect.{Reflect, r_le, r_lt, r_and, cond_true}
use Rattle.std.specs.Prelude.{Ok, Err}
use Rattle.number.specs.Number.{number_at, Read, no_numeral, numeral}
use Rattle.number.proofs.Reading.{unreadable_at}
use Rattle.shape.specs.Shape.{AllBelow}
use Rattle.format.specs.Parser.{Reason, Parsed, parsed, fault, Parser, onward, require, many, Buffer, within, such, meant, judged, read_as, ranged}
use Rattle.format.proofs.Sequence.{Reads, done, one, reads_none, reads_one, reads_append, reads_split}

pub not_fault : {A : Type 0} (x : A) (next : ℕ) (why : Reason) (place : ℕ) → fault why place ≡ parsed x next → ⊥
not_fault x next why place e = let z : ◌≡◌ {A = ℕ} 0 1 = cc in omega arith

-- a parser that went on: what it had read, and what the rest made of it
pub then : {A B Goal : Type 0} (r : Parsed A) (rest : A → Parser B) {y : B} {next : ℕ}
    → ((x : A) (mid : ℕ) → r ≡ parsed x mid → rest x mid ≡ parsed y next → Goal) → onward r rest ≡ parsed y next → Goal
then (parsed x mid) rest go e = go x mid refl e
then (fault why place) rest {y} {next} go e = absurd (not_fault y next why place e)

-- one that was refused: at first, or in the rest
pub then_fault : {A B Goal : Type 0} (r : Parsed A) (rest : A → Parser B) {why : Reason} {place : ℕ}
    → ((x : A) (mid : ℕ) → r ≡ parsed x mid → rest x mid ≡ fault why place → Goal) → (r ≡ fault why place → Goal)
    → onward r rest ≡ fault why place → Goal
then_fault (parsed x mid) rest go stop e = go x mid refl e
then_fault {A} (fault k q) rest {why} {place} go stop e =
    let k_is : k ≡ why = cc in
    let q_is : q ≡ place = cc in
    stop (ap₂ {A = Reason} {B = ℕ} {C = Parsed A} fault k_is q_is)

-- ---- tests

pub require_sound : (test : Bool) (why : Reason) (place at : ℕ) {u : Unit {0}} {next : ℕ} → require test why place at ≡ parsed u next → T test × (at ≡ next)
require_sound true why place at e = (tt, cc)
require_sound false why place at {u} {next} e = absurd (not_fault u next why place e)

pub require_fault : (test : Bool) (why : Reason) (place at : ℕ) {k : Reason} {q : ℕ} → require test why place at ≡ fault k q → (why ≡ k) × (place ≡ q) × (¬ T test)
require_fault true why place at {k} {q} e = absurd (not_fault tt at k q (sym e))
require_fault false why place at e = (cc, cc, λ t. t)

pub require_complete : (test : Bool) (why : Reason) (place at : ℕ) → T test → require test why place at ≡ parsed tt at
require_complete test why place at t = cond_true test (parsed tt at) (fault why place) t

pub require_refuses : (test : Bool) (why : Reason) (place at : ℕ) → ¬ T test → require test why place at ≡ fault why place
require_refuses true why place at n = absurd (n tt)
require_refuses false why place at n = refl

-- a number that a test does not let pass fails it
pub such_none : (test : ℕ → Bool) (n : ℕ) → such test n ≡ none → ¬ T (test n)
such_none test n = by_test (test n)
  where
    by_test : (b : Bool) → cond b (some n) none ≡ none → ¬ T b
    by_test true e t = let z : ◌≡◌ {A = ℕ} 0 1 = cc in omega arith
    by_test false e t = t

module _ (s : Buffer) where
  -- ---- one number

  pub read_sound : {A : Type 0} (meaning : ℕ → Option A) (at : ℕ) (x : A) (next : ℕ) → read_as s meaning at ≡ parsed x next
      → (n : ℕ) × (number_at s.bytes at ≡ numeral n next) × (meaning n ≡ some x)
  unfolding read_as
  read_sound {A} meaning at x next = by_read (number_at s.bytes at) refl
    where
      by_meaning : (n k : ℕ) → number_at s.bytes at ≡ numeral n k → (o : Option A) → meaning n ≡ o → judged s at k o ≡ parsed x next
          → (n : ℕ) × (number_at s.bytes at ≡ numeral n next) × (meaning n ≡ some x)
      by_meaning n k g none h e = absurd (not_fault _ _ _ _ e)
      by_meaning n k g (some y) h e =
          let y_is : y ≡ x = cc in
          let k_is : k ≡ next = cc in
          (n, rw k_is at g, rw y_is at h)

      by_read : (r : Read) → number_at s.bytes at ≡ r → meant s meaning at r ≡ parsed x next
          → (n : ℕ) × (number_at s.bytes at ≡ numeral n next) × (meaning n ≡ some x)
      by_read (Ok r) g e = by_meaning r.value r.next g (meaning r.value) refl e
      by_read (Err p) g e = absurd (not_fault _ _ _ _ e)

  -- the number at a place can't be read, or reads as one for which P holds
  abbrev pub Faulty : (ℕ → Type 0) → Reason → ℕ → Type 0
  Faulty P why place =
      ((why ≡ s.unreadable) × (number_at s.bytes place ≡ no_numeral place))
      ⊎ ((why ≡ s.outside) × ((n : ℕ) × (next : ℕ) × (number_at s.bytes place ≡ numeral n next) × P n))

  pub faulty_map : {P Q : ℕ → Type 0} {why : Reason} {place : ℕ} → ((n : ℕ) → P n → Q n) → Faulty P why place → Faulty Q why place
  faulty_map to (inl f) = inl f
  faulty_map to (inr (k, (n, next, g, h))) = inr (k, (n, next, g, to n h))

  pub read_fault : {A : Type 0} (meaning : ℕ → Option A) (at : ℕ) (why : Reason) (place : ℕ) → read_as s meaning at ≡ fault why place
      → (at ≡ place) × Faulty (λ n. meaning n ≡ none) why at
  unfolding read_as
  read_fault {A} meaning at why place = by_read (number_at s.bytes at) refl
    where
      Result : Type 0
      Result = (at ≡ place) × Faulty (λ n. meaning n ≡ none) why at

      by_meaning : (n k : ℕ) → number_at s.bytes at ≡ numeral n k → (o : Option A) → meaning n ≡ o → judged s at k o ≡ fault why place → Result
      by_meaning n k g none h e = (cc, inr (cc, (n, k, g, h)))
      by_meaning n k g (some y) h e = absurd (not_fault y k why place (sym e))

      by_read : (r : Read) → number_at s.bytes at ≡ r → meant s meaning at r ≡ fault why place → Result
      by_read (Ok r) g e = by_meaning r.value r.next g (meaning r.value) refl e
      by_read (Err p) g e = (cc, inl (cc, g ∙ ap no_numeral (sym (unreadable_at at _ _ _ _ p.at g))))

  pub read_outside : {A : Type 0} (meaning : ℕ → Option A) (at n next : ℕ) → number_at s.bytes at ≡ numeral n next → meaning n ≡ none
      → read_as s meaning at ≡ fault s.outside at
  unfolding read_as
  read_outside meaning at n next g h = ap (meant s meaning at) g ∙ ap (judged s at next) h

  pub read_refuses : {A : Type 0} (meaning : ℕ → Option A) (at : ℕ) (why : Reason) → Faulty (λ n. meaning n ≡ none) why at → read_as s meaning at ≡ fault why at
  unfolding read_as
  read_refuses meaning at why (inl (k, g)) = rw (k, g)
  read_refuses meaning at why (inr (k, (n, next, g, h))) = rw k (read_outside meaning at n next g h)

  pub read_complete : {A : Type 0} (meaning : ℕ → Option A) (at n next : ℕ) (x : A) → number_at s.bytes at ≡ numeral n next → meaning n ≡ some x
      → read_as s meaning at ≡ parsed x next
  unfolding read_as
  read_complete meaning at n next x g h = ap (meant s meaning at) g ∙ ap (judged s at next) h

  -- ---- parsers

  -- p reads exactly the values that are Ok, each from its numbers
  pub record Exact {A : Type 0} (p : Parser A) (numbers : A → List ℕ) (Ok : A → Type 0) : Type 0 where
    pub sound : (at : ℕ) (x : A) (next : ℕ) → p at ≡ parsed x next → Reads s.bytes at (numbers x) next × Ok x
    pub complete : (at : ℕ) (x : A) (next : ℕ) → Reads s.bytes at (numbers x) next → Ok x → p at ≡ parsed x next

  pub exact_iff : {A : Type 0} {p : Parser A} {f g : A → List ℕ} {Ok Ok' : A → Type 0} → ((x : A) → f x ≡ g x) → ((x : A) → Ok x → Ok' x)
      → ((x : A) → Ok' x → Ok x) → Exact p f Ok → Exact p g Ok'
  exact_iff same to from e =
      record {
        sound = λ at x next h. let (r, k) = e.sound at x next h in (rw same at r, to x k);
        complete = λ at x next r k. e.complete at x next (rw same r) (from x k);
      }

  pub such_exact : (test : ℕ → Bool) (P : ℕ → Type 0) → ((n : ℕ) → Reflect (P n) (test n)) → Exact (read_as s (such test)) (λ n. n ∷ []) P
  such_exact test P r = record { sound = sound; complete = complete }
    where
      meant_is : (n x : ℕ) (b : Bool) → test n ≡ b → cond b (some n) none ≡ some x → T (test n) × (n ≡ x)
      meant_is n x true h e = (rw h tt, cc)
      meant_is n x false h e = let z : ◌≡◌ {A = ℕ} 0 1 = cc in absurd (omega arith)

      sound : (at x next : ℕ) → read_as s (such test) at ≡ parsed x next → Reads s.bytes at (x ∷ []) next × P x
      sound at x next e =
          let (n, g, h) = read_sound (such test) at x next e in
          let (t, n_is) = meant_is n x (test n) refl h in
          (one (rw n_is at g), subst P n_is ((r n).holds t))

      complete : (at x next : ℕ) → Reads s.bytes at (x ∷ []) next → P x → read_as s (such test) at ≡ parsed x next
      complete at x next g h = read_complete (such test) at x next x (reads_one g) (cond_true (test x) (some x) none ((r x).tests h))

  -- a number from `low` on and below `limit`
  pub ranged_exact : (low limit : ℕ) → Exact (ranged s low limit) (λ n. n ∷ []) (λ n. (low ≤ n) × (n < limit))
  ranged_exact low limit = such_exact (within low limit) (λ n. (low ≤ n) × (n < limit)) (λ n. r_and (r_le low n) (r_lt n limit))

  module _ {A : Type 0} {p : Parser A} {numbers : A → List ℕ} {Ok : A → Type 0} (e : Exact p numbers Ok) where
    many_sound : (k at : ℕ) (xs : List A) (next : ℕ) → many k p at ≡ parsed xs next
        → Reads s.bytes at (concat_map numbers xs) next × ((length xs ≡ k) × Every Ok xs)
    unfolding many
    many_sound zero at xs next h =
        let xs_is : [] ≡ xs = cc in
        let next_is : at ≡ next = cc in
        rw (← xs_is, ← next_is) (done, (refl, λ x i. absurd (Memᴰ.not-nil i)))
    many_sound (suc k) at xs next h =
        then (p at) _
        (λ x mid h₁. then (many k p mid) _
        (λ ys end h₂ r.
        let (g₁, ok) = e.sound at x mid h₁ in
        let (g₂, (long, oks)) = many_sound k mid ys end h₂ in
        let xs_is : x ∷ ys ≡ xs = cc in
        let next_is : end ≡ next = cc in
        rw (← xs_is, ← next_is) (reads_append g₁ g₂, (ap suc long, every_cons Ok ok oks))))
        h

    many_complete : (k at : ℕ) (xs : List A) (next : ℕ) → Reads s.bytes at (concat_map numbers xs) next → length xs ≡ k → Every Ok xs
        → many k p at ≡ parsed xs next
    unfolding many
    many_complete zero at [] next g long oks = rw (reads_none g)
    many_complete zero at (x ∷ xs) next g long oks = absurd (omega arith)
    many_complete (suc k) at [] next g long oks = absurd (omega arith)
    many_complete (suc k) at (x ∷ xs) next g long oks =
        let (mid, g₁, g₂) = reads_split (numbers x) g in
        rw (
          e.complete at x mid g₁ (oks x (Memᴰ.head refl)),
          many_complete k mid xs next g₂ (omega arith) (λ y i. oks y (Memᴰ.tail i)),
        )

    pub many_exact : (k : ℕ) → Exact (many k p) (concat_map numbers) (λ xs. (length xs ≡ k) × Every Ok xs)
    many_exact k = record { sound = many_sound k; complete = λ at xs next g (long, oks). many_complete k at xs next g long oks }

    -- some are read, and the next is refused
    many_fault : (k at : ℕ) (why : Reason) (place : ℕ) → many k p at ≡ fault why place
        → (xs : List A) × (mid : ℕ) × Reads s.bytes at (concat_map numbers xs) mid × (length xs < k) × Every Ok xs × (p mid ≡ fault why place)
    unfolding many
    many_fault zero at why place h = absurd (not_fault [] at why place (sym h))
    many_fault (suc k) at why place h =
        then_fault (p at) _
        (λ x a h₁. then_fault (many k p a) _ (λ xs b _ r. absurd (not_fault (x ∷ xs) b why place (sym r)))
        (λ h₂.
        let (g, ok) = e.sound at x a h₁ in
        let (xs, mid, r, fewer, oks, f) = many_fault k a why place h₂ in
        (x ∷ xs, mid, reads_append g r, omega arith, every_cons Ok ok oks, f)))
        (λ h₁. ([], at, done, omega arith, (λ x i. absurd (Memᴰ.not-nil i)), h₁)) h

    pub many_refuses : (k at : ℕ) (xs : List A) (mid : ℕ) (why : Reason) (place : ℕ) → Reads s.bytes at (concat_map numbers xs) mid → length xs < k
        → Every Ok xs → p mid ≡ fault why place → many k p at ≡ fault why place
    unfolding many
    many_refuses zero at xs mid why place g fewer oks h = absurd (omega arith)
    many_refuses (suc k) at [] mid why place g fewer oks h = rw (reads_none g, h)
    many_refuses (suc k) at (x ∷ xs) mid why place g fewer oks h =
        let (a, g₁, g₂) = reads_split (numbers x) g in
        rw (
          e.complete at x a g₁ (oks x (Memᴰ.head refl)),
          many_refuses k a xs mid why place g₂ (omega arith) (λ y i. oks y (Memᴰ.tail i)) h,
        )

  -- ---- so many numbers below a limit

  singles : (xs : List ℕ) → concat_map (λ x. x ∷ []) xs ≡ xs
  singles [] = refl
  singles (x ∷ xs) = ap (λ (l : List ℕ). x ∷ l) (singles xs)

  pub codes_exact : (k limit : ℕ) → Exact (many k (ranged s 0 limit)) (λ xs. xs) (λ xs. (length xs ≡ k) × AllBelow limit xs)
  codes_exact k limit =
      exact_iff singles (λ xs (long, oks). (long, λ x i. (oks x i).1)) (λ xs (long, oks). (long, λ x i. (omega arith, oks x i))) (many_exact (ranged_exact 0 limit) k)

  -- some are read, and the next can't be read or is not below the limit
  pub codes_fault : (k limit at : ℕ) (why : Reason) (place : ℕ) → many k (ranged s 0 limit) at ≡ fault why place
      → (xs : List ℕ) × Reads s.bytes at xs place × (length xs < k) × AllBelow limit xs × Faulty (λ n. limit ≤ n) why place
  codes_fault k limit at why place h =
      let (xs, mid, r, fewer, oks, f) = many_fault (ranged_exact 0 limit) k at why place h in
      let (mid_is, w) = read_fault (such (within 0 limit)) mid why place f in (
        xs,
        subst (Reads s.bytes at xs) mid_is (subst (λ (l : List ℕ). Reads s.bytes at l mid) (singles xs) r),
        fewer,
        (λ x i. (oks x i).1),
        subst (Faulty (λ n. limit ≤ n) why) mid_is (faulty_map above w),
      )
    where
      above : (n : ℕ) → such (within 0 limit) n ≡ none → limit ≤ n
      above n e = let k : ¬ (n < limit) = λ q. such_none (within 0 limit) n e ((r_and (r_le 0 n) (r_lt n limit)).tests (omega arith, q)) in omega arith

  pub codes_refuses : (k limit at : ℕ) (xs : List ℕ) (mid : ℕ) (why : Reason) (place : ℕ) → Reads s.bytes at xs mid → length xs < k → AllBelow limit xs
      → ranged s 0 limit mid ≡ fault why place → many k (ranged s 0 limit) at ≡ fault why place
  codes_refuses k limit at xs mid why place g fewer below h =
      many_refuses (ranged_exact 0 limit) k at xs mid why place (subst (λ (l : List ℕ). Reads s.bytes at l mid) (sym (singles xs)) g) fewer
      (λ x i. (omega arith, below x i)) h
