-- The product: its members, order, length and last member; positions are mixed-radix numbers; the next vector.
use Rattle.std.proofs.Common.{◌≡◌, ℕ, zero, suc, ◌+◌, ◌*◌, ◌⊎◌, inl, inr, Bool, false, List, [], ◌∷◌, ◌++◌, length, map, refl, sym, ap, ◌∙◌, subst, arith, add-mul, length-append}
use Rattle.std.proofs.lemmas.Bool.{cases_eq}
use Rattle.std.proofs.lemmas.List.{length-map}
use Rattle.choice_lists.specs.Order.{lexicographic}
use Rattle.choice_lists.specs.Products.{product, IsSelection, product_of, AreDigits, IsFirst, IsLast, AreFirsts, AreLasts, IsNextVector}
use Rattle.choice_lists.specs.Numbers.{radix_number}
use Rattle.choice_lists.proofs.Places.{At, Has, at-from, at-is, at-within, at-any, at-place, at-right, at-map, at-map_back, has-from, contains-from, Ascends, ascends-map, ascends-once}
use Rattle.choice_lists.proofs.Branches.{AllLong, branched-length, branched-at, branched-back, branched-ascends}

-- the branches of a product
abbrev pub pairs : {X : Type 0} → List X → List (List X) → List (X × List (List X))
pairs c l = map (λ x. (x, l)) c

-- each has all rests
pub pairs-long : {X : Type 0} (c : List X) (l : List (List X)) → AllLong (pairs c l) (length l)
pairs-long {X} c l q b a = let m = at-map_back (λ x. (x, l)) c q b a in ap (λ (p : X × List (List X)). length p.1) (sym m.2)

-- the length of a product with one list more
pub product-length_cons : {X : Type 0} (c : List X) (cs : List (List X)) → length (product (c ∷ cs)) ≡ length c * length (product cs)
product-length_cons c cs =
    branched-length (pairs c (product cs)) (length (product cs)) (pairs-long c (product cs))
    ∙ ap (λ z. z * length (product cs)) (length-map c (λ x. (x, product cs)))

-- the length of a product
pub product-length : {X : Type 0} (cs : List (List X)) → length (product cs) ≡ product_of (map length cs)
product-length [] = refl
product-length (c ∷ cs) = product-length_cons c cs ∙ ap (λ z. length c * z) (product-length cs)

-- a member in front of a member of the product of the others
pub product-at_cons : {X : Type 0} (c : List X) (cs : List (List X)) (q r : ℕ) (x : X) (v : List X) → At c q x → At (product cs) r v
    → At (product (c ∷ cs)) (q * length (product cs) + r) (x ∷ v)
product-at_cons c cs q r x v a b =
    branched-at (pairs c (product cs)) (length (product cs)) q r (x, product cs) v (pairs-long c (product cs)) (at-map (λ x. (x, product cs)) c q x a) b

-- the position of a vector is the number of its digits
pub product-at : {X : Type 0} (cs : List (List X)) (v : List X) (ds : List ℕ) → AreDigits cs v ds → At (product cs) (radix_number (map length cs) ds) v
product-at [] [] [] h = refl
product-at [] [] (d ∷ ds) h = absurd h
product-at [] (x ∷ v) ds h = absurd h
product-at (c ∷ cs) [] ds h = absurd h
product-at (c ∷ cs) (x ∷ v) [] h = absurd h
product-at (c ∷ cs) (x ∷ v) (d ∷ ds) h =
    at-place (product (c ∷ cs)) (d * length (product cs) + radix_number (map length cs) ds) (d * product_of (map length cs) + radix_number (map length cs) ds) (x ∷ v)
    (ap (λ z. d * z + radix_number (map length cs) ds) (product-length cs))
    (product-at_cons c cs d (radix_number (map length cs) ds) x v (at-from c d x h.0.0 h.0.1) (product-at cs v ds h.1))

-- a selection has digits
pub selection-digits : {X : Type 0} (cs : List (List X)) (v : List X) → IsSelection cs v → (ds : List ℕ) × AreDigits cs v ds
selection-digits [] [] h = ([], tt)
selection-digits [] (x ∷ v) h = absurd h
selection-digits (c ∷ cs) [] h = absurd h
selection-digits (c ∷ cs) (x ∷ v) h = let r = selection-digits cs v h.1 in let m = has-from c x h.0 in (m.0 ∷ r.0, (at-is c m.0 x m.1, r.1))

-- each selection is a member
pub selection-has : {X : Type 0} (cs : List (List X)) (v : List X) → IsSelection cs v → Has (product cs) v
selection-has cs v h = let d = selection-digits cs v h in (radix_number (map length cs) d.0, product-at cs v d.0 d.1)

-- each member is a selection
pub has-selection : {X : Type 0} (cs : List (List X)) (i : ℕ) (v : List X) → At (product cs) i v → IsSelection cs v
has-selection [] zero v a = subst (λ z. IsSelection [] z) a tt
has-selection [] (suc i) v a = absurd a
has-selection {X} (c ∷ cs) i v a =
    let b = branched-back (pairs c (product cs)) i v a in
    let m = at-map_back (λ x. (x, product cs)) c b.q b.b b.branch in
    let e : m.0 ∷ b.v ≡ v = ap (λ (p : X × List (List X)). p.0 ∷ b.v) m.2 ∙ b.is in
    subst (λ z. IsSelection (c ∷ cs) z) e
    (contains-from c m.0 (b.q, m.1), has-selection cs b.r b.v (subst (λ (p : X × List (List X)). At p.1 b.r b.v) (sym m.2) b.rest))

-- the product of rising lists rises
pub product-ascends : {X : Type 0} (before : X → X → Bool) (cs : List (List X)) → ((x : X) → before x x ≡ false)
    → ((k : ℕ) (c : List X) → At cs k c → Ascends before c) → Ascends (lexicographic before) (product cs)
product-ascends before [] n h = (λ i y a. absurd a, tt)
product-ascends {X} before (c ∷ cs) n h =
    let rest = product-ascends before cs n (λ k d a. h (suc k) d a) in
    branched-ascends before (pairs c (product cs)) n
    (ascends-map before (λ (b d : X × List (List X)). before b.0 d.0) (λ x. (x, product cs)) c (h 0 c refl) (λ x y e. e))
    (λ q b a. let m = at-map_back (λ x. (x, product cs)) c q b a in subst (λ (p : X × List (List X)). Ascends (lexicographic before) p.1) m.2 rest)

-- the first of a list stands at place 0
pub first-at : {X : Type 0} (l : List X) (x : X) → IsFirst l x → At l 0 x
first-at l x f = subst (λ z. At z 0 x) (sym f.is) refl

-- and what stands there is the first
pub at-first : {X : Type 0} (l : List X) (x : X) → At l 0 x → IsFirst l x
at-first [] x a = absurd a
at-first (y ∷ l) x a = record { others = l; is = ap (λ z. z ∷ l) a }

-- the last of a list stands at the last place
pub last-at : {X : Type 0} (l : List X) (x : X) → IsLast l x → (i : ℕ) × At l i x × (i + 1 ≡ length l)
last-at l x f = (length f.others + 0, subst (λ z. At z (length f.others + 0) x) (sym f.is) (at-right f.others (x ∷ []) 0 x refl), omega (arith, ap length f.is, length-append f.others (x ∷ [])))

-- and what stands there is the last
pub at-last : {X : Type 0} (l : List X) (i : ℕ) (x : X) → At l i x → i + 1 ≡ length l → IsLast l x
at-last [] i x a e = absurd a
at-last (y ∷ []) zero x a e = record { others = []; is = ap (λ z. z ∷ []) a }
at-last (y ∷ []) (suc i) x a e = absurd a
at-last (y ∷ z ∷ l) zero x a e = absurd (omega arith)
at-last (y ∷ z ∷ l) (suc i) x a e = let r = at-last (z ∷ l) i x a (omega arith) in record { others = y ∷ r.others; is = ap (λ w. y ∷ w) r.is }

-- the vector of the first choices stands first
pub product-first : {X : Type 0} (cs : List (List X)) (v : List X) → AreFirsts cs v → At (product cs) 0 v
product-first [] [] h = refl
product-first [] (x ∷ v) h = absurd h
product-first (c ∷ cs) [] h = absurd h
product-first (c ∷ cs) (x ∷ v) h =
    at-place (product (c ∷ cs)) (0 * length (product cs) + 0) 0 (x ∷ v) (omega arith) (product-at_cons c cs 0 0 x v (first-at c x h.0) (product-first cs v h.1))

-- the vector of the last choices stands last
pub product-last : {X : Type 0} (cs : List (List X)) (v : List X) → AreLasts cs v → (i : ℕ) × At (product cs) i v × (i + 1 ≡ length (product cs))
product-last [] [] h = (0, refl, refl)
product-last [] (x ∷ v) h = absurd h
product-last (c ∷ cs) [] h = absurd h
product-last (c ∷ cs) (x ∷ v) h =
    let p = last-at c x h.0 in
    let r = product-last cs v h.1 in
    let e : p.0 * length (product cs) + r.0 + 1 ≡ length (product (c ∷ cs)) =
    omega (arith, r.2, add-mul p.0 1 (length (product cs)), ap (λ z. z * length (product cs)) p.2, product-length_cons c cs) in
    (p.0 * length (product cs) + r.0, product-at_cons c cs p.0 r.0 x v p.1 r.1, e)

-- the next vector stands at the next place
pub next-at : {X : Type 0} (ahead : List (List X)) (front : List X) (here : List X) (behind : List (List X)) (place : ℕ) (x y : X) (lasts firsts : List X)
    → IsSelection ahead front → At here place x → At here (place + 1) y → AreLasts behind lasts → AreFirsts behind firsts
    → (i : ℕ) × At (product (ahead ++ here ∷ behind)) i (front ++ x ∷ lasts) × At (product (ahead ++ here ∷ behind)) (i + 1) (front ++ y ∷ firsts)
next-at [] [] here behind place x y lasts firsts s a b l f =
    let r = product-last behind lasts l in
    let e : (place + 1) * length (product behind) + 0 ≡ place * length (product behind) + r.0 + 1 = omega (arith, r.2, add-mul place 1 (length (product behind))) in (
      place * length (product behind) + r.0,
      product-at_cons here behind place r.0 x lasts a r.1,
      at-place (product (here ∷ behind)) ((place + 1) * length (product behind) + 0) (place * length (product behind) + r.0 + 1) (y ∷ firsts) e
          (product-at_cons here behind (place + 1) 0 y firsts b (product-first behind firsts f)),
    )
next-at [] (z ∷ front) here behind place x y lasts firsts s a b l f = absurd s
next-at (c ∷ ahead) [] here behind place x y lasts firsts s a b l f = absurd s
next-at (c ∷ ahead) (z ∷ front) here behind place x y lasts firsts s a b l f =
    let r = next-at ahead front here behind place x y lasts firsts s.1 a b l f in
    let m = has-from c z s.0 in
    let k = length (product (ahead ++ here ∷ behind)) in
    let e : m.0 * k + (r.0 + 1) ≡ m.0 * k + r.0 + 1 = omega arith in (
      m.0 * k + r.0,
      product-at_cons c (ahead ++ here ∷ behind) m.0 r.0 z (front ++ x ∷ lasts) m.1 r.1,
      at-place (product (c ∷ ahead ++ here ∷ behind)) (m.0 * k + (r.0 + 1)) (m.0 * k + r.0 + 1) (z ∷ front ++ y ∷ firsts) e
          (product-at_cons c (ahead ++ here ∷ behind) m.0 (r.0 + 1) z (front ++ y ∷ firsts) m.1 r.2),
    )

-- the same of the record
pub next_vector-at : {X : Type 0} (cs : List (List X)) (v w : List X) → IsNextVector cs v w → (i : ℕ) × At (product cs) i v × At (product cs) (i + 1) w
next_vector-at {X} cs v w n =
    subst (λ (l : List (List X)). (i : ℕ) × At (product l) i v × At (product l) (i + 1) w) (sym n.lists)
    (subst (λ (z : List X). (i : ℕ) × At (product (n.ahead ++ n.here ∷ n.behind)) i z × At (product (n.ahead ++ n.here ∷ n.behind)) (i + 1) w) (sym n.before)
    (subst (λ (z : List X). (i : ℕ) × At (product (n.ahead ++ n.here ∷ n.behind)) i (n.front ++ n.x ∷ n.lasts) × At (product (n.ahead ++ n.here ∷ n.behind)) (i + 1) z) (sym n.after)
    (next-at n.ahead n.front n.here n.behind n.place n.x n.y n.lasts n.firsts n.chosen
    (at-from n.here n.place n.x n.at_x.0 n.at_x.1) (at-from n.here (n.place + 1) n.y n.at_y.0 n.at_y.1) n.all_last n.all_first)))

-- lists of which something can be selected have first members
pub selection-firsts : {X : Type 0} (cs : List (List X)) (v : List X) → IsSelection cs v → (w : List X) × AreFirsts cs w
selection-firsts [] [] h = ([], tt)
selection-firsts [] (x ∷ v) h = absurd h
selection-firsts (c ∷ cs) [] h = absurd h
selection-firsts (c ∷ cs) (x ∷ v) h =
    let r = selection-firsts cs v h.1 in
    let m = has-from c x h.0 in
    let f = at-any c 0 (omega (arith, at-within c m.0 x m.1)) in
    (f.0 ∷ r.0, (at-first c f.0 f.1, r.1))

-- a selection is the last, or there is a next vector
pub last-or-next : {X : Type 0} (cs : List (List X)) (v : List X) → IsSelection cs v → AreLasts cs v ⊎ ((w : List X) × IsNextVector cs v w)
last-or-next [] [] h = inl tt
last-or-next [] (x ∷ v) h = absurd h
last-or-next (c ∷ cs) [] h = absurd h
last-or-next {X} (c ∷ cs) (x ∷ v) h = elim (last-or-next cs v h.1) [
  | inr n ↦ inr (
    x ∷ n.0,
    record {
      ahead = c ∷ n.1.ahead;
      here = n.1.here;
      behind = n.1.behind;
      lists = ap (λ z. c ∷ z) n.1.lists;
      front = x ∷ n.1.front;
      chosen = (h.0, n.1.chosen);
      place = n.1.place;
      x = n.1.x;
      y = n.1.y;
      at_x = n.1.at_x;
      at_y = n.1.at_y;
      lasts = n.1.lasts;
      firsts = n.1.firsts;
      all_last = n.1.all_last;
      all_first = n.1.all_first;
      before = ap (λ z. x ∷ z) n.1.before;
      after = ap (λ z. x ∷ z) n.1.after;
    },
  )
  | inl l ↦ here l (has-from c x h.0)
]
  where
    here : AreLasts cs v → Has c x → AreLasts (c ∷ cs) (x ∷ v) ⊎ ((w : List X) × IsNextVector (c ∷ cs) (x ∷ v) w)
    here l m = elim (cases_eq (m.0 + 1) (length c)) [
      | inl e ↦ inl (at-last c m.0 x m.1 e, l)
      | inr n ↦
          let y = at-any c (m.0 + 1) (omega (arith, n, at-within c m.0 x m.1)) in
          let f = selection-firsts cs v h.1 in
          inr (
            y.0 ∷ f.0,
            record {
              ahead = [];
              here = c;
              behind = cs;
              lists = refl;
              front = [];
              chosen = tt;
              place = m.0;
              x = x;
              y = y.0;
              at_x = at-is c m.0 x m.1;
              at_y = at-is c (m.0 + 1) y.0 y.1;
              lasts = v;
              firsts = f.0;
              all_last = l;
              all_first = f.1;
              before = refl;
              after = refl;
            },
          )
    ]

-- in a product of rising lists the last vector has no next one
pub last-no-next : {X : Type 0} (before : X → X → Bool) (cs : List (List X)) (v w : List X) → ((x : X) → before x x ≡ false)
    → ((k : ℕ) (c : List X) → At cs k c → Ascends before c) → ((x : List X) → lexicographic before x x ≡ false) → AreLasts cs v → IsNextVector cs v w → ⊥
last-no-next before cs v w n h k l x =
    let a = product-last cs v l in
    let b = next_vector-at cs v w x in
    absurd (omega (arith, a.2, ascends-once (lexicographic before) (product cs) k (product-ascends before cs n h) a.0 b.0 v a.1 b.1, at-within (product cs) (b.0 + 1) w b.2))
