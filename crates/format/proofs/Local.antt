-- Parsers look no further than they read, and what they have read without refusal goes on: on a buffer with the same bytes so far a parser
-- does the same, and before a number that is refused stands what begins something that the parser reads, or facts have begun.
use mathlib.Core.List.{List, [], ◌∷◌, ◌++◌, append-nil, append_assoc}
use mathlib.Core.Logic.{◌⊎◌, inl, inr}
use mathlib.Core.Option.{Option, none, some}
use mathlib.Core.Path.{◌≡◌, refl, sym, ap, ap₂, subst, ◌∙◌}
use Prim.Native.Nat.{ℕ, zero, suc, ◌+◌, ◌-◌, ◌≤◌, ◌<◌, min}
use native.Mathlib.Omega.{arith}
use lib.ListN.{length, get_or, take, drop, length-take, length-append}
use lib.Seq.{get_or-take, take-take, take-length, take_at, length-take-le, drop-append_seam}
use Rattle.lists.specs.List.{Every, concat_map}
use Rattle.lists.proofs.List.{every_none, every_cons}
use Rattle.lists.proofs.Reflect.{r_le, r_lt, r_eq, cond_cases}
use Rattle.number.specs.Number.{largest, bytes_of, number_in, number_at, Read, no_numeral, numeral}
use Rattle.number.specs.NumberList.{encode}
use Rattle.number.specs.Range.{AtMost}
use Rattle.number.proofs.Reading.{same_next, read_or_not, one_byte, two_bytes, three_bytes}
use Rattle.number.proofs.RoundTrip.{reads}
use Rattle.number.proofs.Writing.{some_bytes}
use Rattle.format.specs.Parser.{Reason, parsed, fault, Parser, onward, ◌>>=◌, return, here, many, Buffer, read_as}
use Rattle.format.specs.Meaning.{Before}
use Rattle.format.proofs.Sequence.{Reads, done, more, one, reads_on, reads_inside, reads_append, number_in_lem, reads_decode, decode_reads}
use Rattle.format.proofs.Parsing.{not_fault, then, then_fault, read_sound, read_complete, read_outside, Faulty, faulty_map, read_fault}

-- buffers with the same bytes up to a place have the same bytes up to an earlier one
pub agree_less : (a b : List ℕ) (k e : ℕ) → k ≤ e → take e a ≡ take e b → take k a ≡ take k b
agree_less a b k e h same = sym (take-take k e a h) ∙ ap (take k) same ∙ take-take k e b h

module _ (s s' : List ℕ) (e : ℕ) (agree : take e s ≡ take e s') where
  same_byte : (i : ℕ) → i < e → get_or s i 0 ≡ get_or s' i 0
  same_byte i h = sym (get_or-take e s i 0 h) ∙ ap (λ (l : List ℕ). get_or l i 0) agree ∙ get_or-take e s' i 0 h

  same_length : (k : ℕ) → k ≤ e → k ≤ length s → k ≤ length s'
  same_length k h l =
      let z : min e (length s) ≡ min e (length s') = sym (length-take e s) ∙ ap length agree ∙ length-take e s' in
      omega arith

  pub number_local : (at n next : ℕ) → number_at s at ≡ numeral n next → next ≤ e → number_at s' at ≡ numeral n next
  unfolding number_in
  number_local at n next =
      cond_cases Q (r_le left 0) (λ _. unread)
      (λ l₀. cond_cases Q (r_lt a 128)
      (λ h r k.
      let z : at + 1 ≡ next = same_next r in
      sym (one_byte s' at a (same_byte at (omega arith)) (same_length (suc at) (omega arith) (omega arith)) h) ∙ r)
      (λ h. cond_cases Q (r_le left 1) (λ _. unread)
      (λ l₁. cond_cases Q (r_eq b 0) (λ _. unread)
      (λ b₀. cond_cases Q (r_lt b 128)
      (λ h' r k.
      let z : at + 2 ≡ next = same_next r in
      let long = same_length (at + 2) (omega arith) (omega arith) in
      sym (two_bytes s' at a (same_byte at (omega arith)) (omega arith) b (same_byte (at + 1) (omega arith)) (omega arith) b₀ h') ∙ r)
      (λ h'. cond_cases Q (r_le left 2) (λ _. unread)
      (λ l₂. cond_cases Q (r_eq c 0) (λ _. unread)
      (λ c₀. cond_cases Q (r_lt c 4)
      (λ h'' r k.
      let z : at + 3 ≡ next = same_next r in
      let long = same_length (at + 3) (omega arith) (omega arith) in
      sym (three_bytes s' at a (same_byte at (omega arith)) (omega arith) b (same_byte (at + 1) (omega arith)) (omega arith) b₀ (omega arith) c
      (same_byte (at + 2) (omega arith)) (omega arith) c₀ h'') ∙ r)
      (λ _. unread))))))))
    where
      left : ℕ
      left = length s - at

      a : ℕ
      a = get_or s at 0

      b : ℕ
      b = get_or s (at + 1) 0

      c : ℕ
      c = get_or s (at + 2) 0

      Q : Read → Type 0
      Q r = r ≡ numeral n next → next ≤ e → number_at s' at ≡ numeral n next

      unread : Q (no_numeral at)
      unread r k = absurd (read_or_not r)

  pub reads_local : {at next : ℕ} {ns : List ℕ} → Reads s at ns next → next ≤ e → Reads s' at ns next
  reads_local done k = done
  reads_local (more {at = a} {n = n} {mid = m} g r) k = let l = reads_on r in more (number_local a n m g (omega arith)) (reads_local r k)

-- numbers written at the end of a buffer are read there
pub written_reads : (b ns : List ℕ) → AtMost largest ns → Reads (b ++ encode ns) (length b) ns (length (b ++ encode ns))
unfolding encode
written_reads b [] small = rw append-nil done
written_reads b (n ∷ ns) (h, small) =
    let e : b ++ (bytes_of n ++ encode ns) ≡ (b ++ bytes_of n) ++ encode ns = sym (append_assoc b (bytes_of n) (encode ns)) in
    let g = reads (b ++ (bytes_of n ++ encode ns)) (length b) n (encode ns) h (drop-append_seam b (bytes_of n ++ encode ns)) in
    let r = written_reads (b ++ bytes_of n) ns small in
    more g (rw (← e, length-append b (bytes_of n)) at r)

module _ (s : List ℕ) where
  -- what is read before a place
  pub reads_before : {place : ℕ} {ns : List ℕ} → Reads s 0 ns place → Before s place ns
  reads_before {place} {ns} r = (
    let inside = reads_inside r (omega arith) in omega arith,
    reads_decode (take place s) ns place (reads_local s (take place s) place (sym (take-take place place s (omega arith))) r (omega arith))
        (rw length-take (omega arith)),
  )

  -- and the other way round
  pub before_reads : {place : ℕ} {ns : List ℕ} → Before s place ns → Reads s 0 ns place
  before_reads {place} {ns} (inside, e) =
      let (next, r, whole) = decode_reads (take place s) ns e in
      let long = length-take-le place s inside in
      let short = reads_inside r (omega arith) in
      let next_is : next ≡ place = omega arith in
      reads_local (take place s) s place (take-take place place s (omega arith)) (rw next_is at r) (omega arith)

-- ---- parsers of numbers, on any buffer

-- values from some numbers
abbrev pub Some : {A : Type 0} → A → List ℕ → Type 0
Some x ns = Unit {0}

-- C never holds
abbrev pub Never : List ℕ → Type 0
Never ns = ⊥

module _ {A : Type 0} (numbers : A → List ℕ) (Ok : A → Type 0) where
  -- the numbers are those of the value, which is Ok
  abbrev pub Of : A → List ℕ → Type 0
  Of x ns = (ns ≡ numbers x) × Ok x

  -- several are whole, and C holds of the numbers after them
  pub record Among (C : List ℕ → Type 0) (k : ℕ) (ns : List ℕ) : Type 0 where
    pub several : List A
    pub fewer : length several < k
    pub ok : Every Ok several
    pub rest : List ℕ
    pub holds : C rest
    pub numbers_are : concat_map numbers several ++ rest ≡ ns

module _ (u o l : Reason) where
  -- the buffer of these bytes, with the refusals u, o and l
  abbrev pub on : List ℕ → Buffer
  on b = record { bytes = b; unreadable = u; outside = o; left = l }

  -- p reads the other buffer, which begins with b, from the end of b to its own end
  pub record Grown {A : Type 0} (p : List ℕ → Parser A) (b : List ℕ) : Type 0 where
    pub other : List ℕ
    pub begins : take (length b) other ≡ b
    pub value : A
    pub parses : p other (length b) ≡ parsed value (length other)

  -- p reads another buffer, which has the same bytes before the place and goes on there, to its end
  pub record GoesOn {A : Type 0} (p : List ℕ → Parser A) (b : List ℕ) (at place : ℕ) : Type 0 where
    pub other : List ℕ
    pub same : take place b ≡ take place other
    pub longer : place < length other
    pub value : A
    pub parses : p other at ≡ parsed value (length other)

  -- A number at the place, after others, is refused; one that breaks its range is so on every buffer with the same bytes up to its end. Before it
  -- all is well: p goes on, or C holds.
  pub record NumberFault {A : Type 0} (C : List ℕ → Type 0) (p : List ℕ → Parser A) (b : List ℕ) (at : ℕ) (why : Reason) (place : ℕ) : Type 0 where
    pub earlier : List ℕ
    pub before : Reads b at earlier place
    pub faulty : Faulty (on b) (λ n. Unit {0}) why place
    pub again : (n next : ℕ) → number_at b place ≡ numeral n next → (b' : List ℕ) → take next b ≡ take next b' → p b' at ≡ fault why place
    pub begun : GoesOn p b at place ⊎ C earlier

  -- p reads values x from numbers ns, where P x ns; it looks no further than it reads; it can read on where a buffer ends, and where it refuses,
  -- unless C holds of the numbers before
  pub record Completes {A : Type 0} (P : A → List ℕ → Type 0) (C : List ℕ → Type 0) (p : List ℕ → Parser A) : Type 0 where
    pub reads : (b : List ℕ) (at : ℕ) (x : A) (next : ℕ) → p b at ≡ parsed x next → (ns : List ℕ) × Reads b at ns next × P x ns
    pub same : (b b' : List ℕ) (at : ℕ) (x : A) (next : ℕ) → take next b ≡ take next b' → p b at ≡ parsed x next → p b' at ≡ parsed x next
    pub grows : (b : List ℕ) → Grown p b
    pub refused : (b : List ℕ) (at : ℕ) (why : Reason) (place : ℕ) → at ≤ length b → p b at ≡ fault why place → NumberFault C p b at why place

  pub completes_weaken : {A : Type 0} {P Q : A → List ℕ → Type 0} {C D : List ℕ → Type 0} {p : List ℕ → Parser A}
      → ((x : A) (ns : List ℕ) → P x ns → Q x ns) → ((ns : List ℕ) → C ns → D ns) → Completes P C p → Completes Q D p
  completes_weaken {A} {P} {Q} {C} {D} {p} to further c =
      record {
        reads = λ b at x next h. let (ns, g, k) = c.reads b at x next h in (ns, g, to x ns k);
        same = c.same;
        grows = c.grows;
        refused = λ b at why place inside h. weaker (c.refused b at why place inside h);
      }
    where
      by_begun : {b : List ℕ} {at place : ℕ} {ns : List ℕ} → GoesOn p b at place ⊎ C ns → GoesOn p b at place ⊎ D ns
      by_begun (inl g) = inl g
      by_begun {ns = ns} (inr k) = inr (further ns k)

      weaker : {b : List ℕ} {at : ℕ} {why : Reason} {place : ℕ} → NumberFault C p b at why place → NumberFault D p b at why place
      weaker f = record { earlier = f.earlier; before = f.before; faulty = f.faulty; again = f.again; begun = by_begun f.begun }

  -- a parser that reads nothing
  completes_still : {A : Type 0} {P : A → List ℕ → Type 0} {C : List ℕ → Type 0} (f : ℕ → A) → ((at : ℕ) → P (f at) []) → Completes P C (λ b at. parsed (f at) at)
  completes_still {A} {P} f h =
      record {
        reads = λ b at x next e.
            let next_is : at ≡ next = cc in
            let x_is : f at ≡ x = cc in
            ([], subst (Reads b at []) next_is done, subst (λ y. P y []) x_is (h at));
        same = λ b b' at x next agree e. e;
        grows = λ b. record { other = b; begins = take-length b; value = f (length b); parses = refl };
        refused = λ b at why place i e. absurd (not_fault (f at) at why place (sym e));
      }

  pub completes_return : {A : Type 0} {P : A → List ℕ → Type 0} {C : List ℕ → Type 0} (x : A) → P x [] → Completes P C (λ b. return x)
  completes_return x h = completes_still (λ at. x) (λ at. h)

  pub completes_here : {C : List ℕ → Type 0} → Completes (λ at ns. ns ≡ []) C (λ b. here)
  completes_here = completes_still (λ at. at) (λ at. refl)

  -- a number, where some number is allowed
  module _ {A : Type 0} (meaning : ℕ → Option A) (n : ℕ) (x : A) (small : n ≤ largest) (allowed : meaning n ≡ some x) where
    -- it is read where it is written
    read_written : (b : List ℕ) → read_as (on (b ++ bytes_of n)) meaning (length b) ≡ parsed x (length (b ++ bytes_of n))
    read_written b =
        let e : drop (length b) (b ++ bytes_of n) ≡ bytes_of n ++ [] = drop-append_seam b (bytes_of n) ∙ sym (append-nil (bytes_of n)) in
        read_complete (on (b ++ bytes_of n)) meaning (length b) n (length (b ++ bytes_of n)) x
        (reads (b ++ bytes_of n) (length b) n [] small e ∙ ap (numeral n) (sym (length-append b (bytes_of n)))) allowed

    -- a parser that begins with the number and is through with n as soon as it is read
    module _ {B : Type 0} (p : List ℕ → Parser B) (y : B)
        (stops : (b : List ℕ) (at : ℕ) (why : Reason) (place : ℕ) → read_as (on b) meaning at ≡ fault why place → p b at ≡ fault why place)
        (ends : (b : List ℕ) (at next : ℕ) → read_as (on b) meaning at ≡ parsed x next → p b at ≡ parsed y next) where
      pub first_grows : (b : List ℕ) → Grown p b
      first_grows b =
          record {
            other = b ++ bytes_of n;
            begins = take_at b (bytes_of n) (length b) refl;
            value = y;
            parses = ends (b ++ bytes_of n) (length b) (length (b ++ bytes_of n)) (read_written b);
          }

      pub number_refused : {C : List ℕ → Type 0} (b : List ℕ) (at : ℕ) (why : Reason) (place : ℕ) → at ≤ length b → read_as (on b) meaning at ≡ fault why place
          → NumberFault C p b at why place
      number_refused {C} b at why place inside h =
          let (at_is, f) = read_fault (on b) meaning at why place h in
          subst (NumberFault C p b at why) at_is
          (record {
            earlier = [];
            before = done;
            faulty = faulty_map (on b) (λ n _. tt) f;
            again = again f;
            begun =
                inl (record {
                  other = take at b ++ bytes_of n;
                  same = sym (take_at (take at b) (bytes_of n) at long);
                  longer = omega (arith, long, length-append (take at b) (bytes_of n), some_bytes n);
                  value = y;
                  parses = ends (take at b ++ bytes_of n) at _ (rw long at (read_written (take at b)));
                });
          })
        where
          long : length (take at b) ≡ at
          long = length-take-le at b inside

          again : Faulty (on b) (λ n. meaning n ≡ none) why at → (m next : ℕ) → number_at b at ≡ numeral m next → (b' : List ℕ) → take next b ≡ take next b'
              → p b' at ≡ fault why at
          again (inl (_, g)) m next h b' agree = absurd (read_or_not (sym g ∙ h))
          again (inr (k, (m', next', g, outside))) m next h b' agree =
              let next_is : next' ≡ next = same_next (sym g ∙ h) in
              stops b' at why at (rw k (read_outside (on b') meaning at m' next' (number_local b b' next agree at m' next' g (omega arith)) outside))

    pub completes_read : {C : List ℕ → Type 0} → Completes (λ x ns. (n : ℕ) × (ns ≡ n ∷ []) × (meaning n ≡ some x)) C (λ b. read_as (on b) meaning)
    completes_read =
        record {
          reads = λ b at y next h. let (m, g, e) = read_sound (on b) meaning at y next h in (m ∷ [], one g, (m, refl, e));
          same = λ b b' at y next agree h.
              let (m, g, e) = read_sound (on b) meaning at y next h in
              read_complete (on b') meaning at m next y (number_local b b' next agree at m next g (omega arith)) e;
          grows = first_grows (λ b. read_as (on b) meaning) x (λ b at why place h. h) (λ b at next h. h);
          refused = number_refused (λ b. read_as (on b) meaning) x (λ b at why place h. h) (λ b at next h. h);
        }

  -- one parser, then another for each value of the first
  module _ {A B : Type 0} {P : A → List ℕ → Type 0} {D : List ℕ → Type 0} (C : List ℕ → Type 0) {p : List ℕ → Parser A} {r : A → List ℕ → Parser B}
      (first : Completes P D p) (further : (ns : List ℕ) → D ns → C ns)
      (rest : (x : A) (ms : List ℕ) → P x ms → Completes Some (λ ns. C (ms ++ ns)) (r x)) where
    abbrev both : List ℕ → Parser B
    both b = p b >>= (λ x. r x b)

    -- what the first read on one buffer, with what the second makes of it on another with the same bytes so far
    after : (b b' : List ℕ) (at : ℕ) (x : A) (mid : ℕ) → p b at ≡ parsed x mid → take mid b ≡ take mid b' → both b' at ≡ r x b' mid
    after b b' at x mid h agree = ap (λ q. onward q (λ x. r x b')) (first.same b b' at x mid agree h)

    begins_longer : (b other : List ℕ) → take (length b) other ≡ b → length b ≤ length other
    begins_longer b other e = let z = sym (ap length e) ∙ length-take (length b) other in omega arith

    -- where the first is through, the second reads on
    rest_grows : (b : List ℕ) (at : ℕ) (x : A) → p b at ≡ parsed x (length b) → Grown (r x) b
    rest_grows b at x h = let (ns, _, k) = first.reads b at x (length b) h in (rest x ns k).grows b

    bind_grows : (b : List ℕ) → Grown both b
    bind_grows b =
        let g = first.grows b in
        let k = rest_grows g.other (length b) g.value g.parses in
        record {
          other = k.other;
          begins =
              sym (take-take (length b) (length g.other) k.other (begins_longer b g.other g.begins)) ∙ ap (take (length b)) k.begins ∙ g.begins;
          value = k.value;
          parses =
              after g.other k.other (length b) g.value (length g.other) g.parses (take-length g.other ∙ sym k.begins) ∙ k.parses;
        }

    -- the first refuses: what it reads on another buffer, the second takes further
    first_begun : (b : List ℕ) (at place : ℕ) (ns : List ℕ) → GoesOn p b at place ⊎ D ns → GoesOn both b at place ⊎ C ns
    first_begun b at place ns (inr h) = inr (further ns h)
    first_begun b at place ns (inl f) =
        let k = rest_grows f.other at f.value f.parses in
        let longer = f.longer in
        let longer' = begins_longer f.other k.other k.begins in
        inl (record {
          other = k.other;
          same = f.same ∙ ap (take place) (sym k.begins) ∙ take-take place (length f.other) k.other (omega arith);
          longer = omega arith;
          value = k.value;
          parses =
              after f.other k.other at f.value (length f.other) f.parses (take-length f.other ∙ sym k.begins) ∙ k.parses;
        })

    first_refused : (b : List ℕ) (at : ℕ) (why : Reason) (place : ℕ) → NumberFault D p b at why place → NumberFault C both b at why place
    first_refused b at why place f =
        record {
          earlier = f.earlier;
          before = f.before;
          faulty = f.faulty;
          again = λ n next g b' agree. ap (λ q. onward q (λ x. r x b')) (f.again n next g b' agree);
          begun = first_begun b at place f.earlier f.begun;
        }

    rest_begun : (b : List ℕ) (at place : ℕ) (x : A) (mid : ℕ) (ms ns : List ℕ) → p b at ≡ parsed x mid → mid ≤ place
        → GoesOn (r x) b mid place ⊎ C (ms ++ ns) → GoesOn both b at place ⊎ C (ms ++ ns)
    rest_begun b at place x mid ms ns h l (inr k) = inr k
    rest_begun b at place x mid ms ns h l (inl f) =
        inl (record {
          other = f.other;
          same = f.same;
          longer = f.longer;
          value = f.value;
          parses = after b f.other at x mid h (agree_less b f.other mid place l f.same) ∙ f.parses;
        })

    rest_refused : (b : List ℕ) (at : ℕ) (why : Reason) (place : ℕ) (x : A) (mid : ℕ) (ms : List ℕ) → p b at ≡ parsed x mid → Reads b at ms mid
        → NumberFault (λ ns. C (ms ++ ns)) (r x) b mid why place → NumberFault C both b at why place
    rest_refused b at why place x mid ms h g f =
        let l = reads_on f.before in
        record {
          earlier = ms ++ f.earlier;
          before = reads_append g f.before;
          faulty = f.faulty;
          again = λ n next k b' agree.
              let (_, i, _) = number_in_lem place _ _ _ _ n next k in
              after b b' at x mid h (agree_less b b' mid next (omega arith) agree) ∙ f.again n next k b' agree;
          begun = rest_begun b at place x mid ms f.earlier h l f.begun;
        }

    pub completes_bind : Completes Some C both
    completes_bind =
        record {
          reads = λ b at y next.
              then (p b at) _
              (λ x mid h₁ h₂.
              let (ms, g, k) = first.reads b at x mid h₁ in
              let (ns, g', _) = (rest x ms k).reads b mid y next h₂ in
              (ms ++ ns, reads_append g g', tt));
          same = λ b b' at y next agree.
              then (p b at) _
              (λ x mid h₁ h₂.
              let (ms, _, k) = first.reads b at x mid h₁ in
              let c = rest x ms k in
              let (_, g, _) = c.reads b mid y next h₂ in
              let l = reads_on g in
              after b b' at x mid h₁ (agree_less b b' mid next l agree) ∙ c.same b b' mid y next agree h₂);
          grows = bind_grows;
          refused = λ b at why place inside.
              then_fault (p b at) _
              (λ x mid h₁ h₂.
              let (ms, g, k) = first.reads b at x mid h₁ in
              rest_refused b at why place x mid ms h₁ g ((rest x ms k).refused b mid why place (reads_inside g inside) h₂))
              (λ h₁. first_refused b at why place (first.refused b at why place inside h₁));
        }

  -- ---- several, one after the other

  module _ {A : Type 0} (numbers : A → List ℕ) (Ok : A → Type 0) where
    -- what is known of the values that it reads may be put in
    pub completes_of : {P : A → List ℕ → Type 0} {C : List ℕ → Type 0} {p : List ℕ → Parser A}
        → ((b : List ℕ) (at : ℕ) (x : A) (next : ℕ) → p b at ≡ parsed x next → Reads b at (numbers x) next × Ok x) → Completes P C p → Completes (Of numbers Ok) C p
    completes_of sound c =
        record {
          reads = λ b at x next h. let (g, k) = sound b at x next h in (numbers x, g, (refl, k));
          same = c.same;
          grows = c.grows;
          refused = c.refused;
        }

    pub completes_many : {C : List ℕ → Type 0} {p : List ℕ → Parser A} → Completes (Of numbers Ok) C p → (k : ℕ)
        → Completes Some (Among numbers Ok C k) (λ b. many k (p b))
    unfolding many
    completes_many c zero = completes_return [] tt
    completes_many {C} c (suc k) =
        completes_bind (Among numbers Ok C (suc k)) c
        (λ ns h. record { several = []; fewer = omega arith; ok = every_none Ok; rest = ns; holds = h; numbers_are = refl })
        (λ x ms (e, ok). completes_bind (λ ns. Among numbers Ok C (suc k) (ms ++ ns)) (completes_many c k)
        (λ ns h. record {
          several = x ∷ h.several;
          fewer = omega (arith, h.fewer);
          ok = every_cons Ok ok h.ok;
          rest = h.rest;
          holds = h.holds;
          numbers_are = append_assoc (numbers x) (concat_map numbers h.several) h.rest ∙ ap₂ ◌++◌ (sym e) h.numbers_are;
        })
        (λ xs _ _. completes_return (x ∷ xs) tt))
