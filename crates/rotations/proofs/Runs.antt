-- Runs round a vertex: each two edges there bound one, and the other edges come behind it.
use Rattle.std.proofs.Common.{◌≡◌, ℕ, zero, suc, ◌<◌, ◌≤◌, true, List, [], ◌∷◌, ◌++◌, reverse, length, get_or, refl, sym, ap, ◌∙◌, subst, inl, inr, arith, append_assoc, append-nil}
use Rattle.std.specs.List.Sorted.{IsPermutation}
use Rattle.std.proofs.lemmas.List.Sorted.{IsPermutation-trans, IsPermutation-append_comm, IsPermutation-append_left, IsPermutation-reverse}
use Rattle.std.proofs.lemmas.List.{get_or_append_left}
use Rattle.std.proofs.lemmas.Bool.{cases_eq, both_ways}
use Rattle.permutations.specs.Members.{is_member, is_distinct}
use Rattle.permutations.specs.Cyclic.{first_or, successor, predecessor, IsTurn}
use Rattle.permutations.proofs.Members.{member-head, member-append_left, member-append_right, distinct-append_apart, cut_at}
use Rattle.permutations.proofs.Successor.{predecessor-successor}
use Rattle.permutations.proofs.Chains.{successor-last}
use Rattle.permutations.proofs.Turned.{IsTurn-swap, IsTurn-member, IsTurn-distinct, IsTurn-successor, IsTurn-permutation}
use Rattle.rotations.specs.Runs.{IsRun, IsParted, IsOutside}

-- what a list of two parts begins with, where the first part is not empty
same-head : (x y : ℕ) (xs ys : List ℕ) → x ∷ xs ≡ y ∷ ys → x ≡ y
same-head x y xs ys e = ap (first_or 0) e

-- two edges round a vertex bound a run
pub record Parting (order : List ℕ) (first last : ℕ) : Type 0 where
  pub run : List ℕ
  pub others : List ℕ
  pub parted : IsParted order first last run others

run-of : (first last : ℕ) (behind front back : List ℕ) → first ∷ behind ≡ front ++ last ∷ back → IsRun first last (front ++ last ∷ [])
run-of first last behind [] back e = record { behind = []; begins = ap (λ (x : ℕ). x ∷ []) (sym (same-head first last behind back e)); ahead = []; ends = refl }
run-of first last behind (x ∷ xs) back e = record { behind = xs ++ last ∷ []; begins = ap (λ (y : ℕ). y ∷ (xs ++ last ∷ [])) (sym (same-head first x behind (xs ++ last ∷ back) e)); ahead = x ∷ xs; ends = refl }

pub parting : (order : List ℕ) (first last : ℕ) → is_member first order ≡ true → is_member last order ≡ true → Parting order first last
parting order first last mf ml =
    let cut = cut_at first order mf in
    let turn : IsTurn order ((first ∷ cut.back) ++ cut.front) = subst (λ (o : List ℕ). IsTurn o ((first ∷ cut.back) ++ cut.front)) (sym cut.is) (IsTurn-swap cut.front (first ∷ cut.back)) in
    let there = cut_at last ((first ∷ cut.back) ++ cut.front) (IsTurn-member order ((first ∷ cut.back) ++ cut.front) last turn ∙ ml) in
    record {
      run = there.front ++ last ∷ [];
      others = there.back;
      parted = record {
        is_run = run-of first last (cut.back ++ cut.front) there.front there.back there.is;
        round = subst (λ (o : List ℕ). IsTurn order o) (there.is ∙ sym (append_assoc there.front (last ∷ []) there.back)) turn;
      };
    }

-- the first and the last of a run are members of the order
module _ (order : List ℕ) (first last : ℕ) (run others : List ℕ) (p : IsParted order first last run others) where
  pub first-run : is_member first run ≡ true
  first-run = subst (λ (r : List ℕ). is_member first r ≡ true) (sym p.is_run.begins) (member-head first p.is_run.behind)

  pub last-run : is_member last run ≡ true
  last-run = subst (λ (r : List ℕ). is_member last r ≡ true) (sym p.is_run.ends) (member-append_right last p.is_run.ahead (last ∷ []) (member-head last []))

  pub in-order : (e : ℕ) → is_member e (run ++ others) ≡ true → is_member e order ≡ true
  in-order e m = sym (IsTurn-member order (run ++ others) e p.round) ∙ m

  pub first-in : is_member first order ≡ true
  first-in = in-order first (member-append_left first run others first-run)

  pub last-in : is_member last order ≡ true
  last-in = in-order last (member-append_left last run others last-run)

  pub parts-distinct : is_distinct order ≡ true → is_distinct (run ++ others) ≡ true
  parts-distinct d = IsTurn-distinct order (run ++ others) p.round d

-- the last member of a list that is not empty
pub last-cut : (x : ℕ) (xs : List ℕ) → (c : List ℕ) × (y : ℕ) × (x ∷ xs ≡ c ++ y ∷ [])
last-cut x [] = ([], x, refl)
last-cut x (y ∷ ys) = let w = last-cut y ys in (x ∷ w.0, w.1, ap (λ (l : List ℕ). x ∷ l) w.2)

-- the edge before the run is the last of the others
pub before-run : (order : List ℕ) (first last : ℕ) (run c : List ℕ) (y : ℕ) → is_distinct order ≡ true → IsParted order first last run (c ++ y ∷ []) → predecessor order first ≡ y
before-run order first last run c y d p = ap (predecessor order) (sym goes) ∙ predecessor-successor order y d
  where
    whole : is_distinct ((run ++ c) ++ y ∷ []) ≡ true
    whole = subst (λ (l : List ℕ). is_distinct l ≡ true) (sym (append_assoc run c (y ∷ []))) (parts-distinct order first last run (c ++ y ∷ []) p d)

    head : first_or y (run ++ c) ≡ first
    head = ap (λ (r : List ℕ). first_or y (r ++ c)) p.is_run.begins

    goes : successor order y ≡ first
    goes = sym (IsTurn-successor order (run ++ (c ++ y ∷ [])) y p.round d) ∙ (ap (λ (l : List ℕ). successor l y) (sym (append_assoc run c (y ∷ []))) ∙ (successor-last (run ++ c) y whole ∙ head))

-- where there are no others it is the last of the run
pub before-whole : (order : List ℕ) (first last : ℕ) (run : List ℕ) → is_distinct order ≡ true → IsParted order first last run [] → predecessor order first ≡ last
before-whole order first last run d p = ap (predecessor order) (sym goes) ∙ predecessor-successor order last d
  where
    whole : is_distinct (p.is_run.ahead ++ last ∷ []) ≡ true
    whole = subst (λ (l : List ℕ). is_distinct l ≡ true) (append-nil run ∙ p.is_run.ends) (parts-distinct order first last run [] p d)

    head : first_or last p.is_run.ahead ≡ first
    head = same p.is_run.ahead (sym p.is_run.ends ∙ p.is_run.begins)
      where
        same : (a : List ℕ) → a ++ last ∷ [] ≡ first ∷ p.is_run.behind → first_or last a ≡ first
        same [] e = same-head last first [] p.is_run.behind e
        same (x ∷ xs) e = same-head x first (xs ++ last ∷ []) p.is_run.behind e

    goes : successor order last ≡ first
    goes = sym (IsTurn-successor order (run ++ []) last p.round d) ∙ (ap (λ (l : List ℕ). successor l last) (append-nil run ∙ p.is_run.ends) ∙ (successor-last p.is_run.ahead last whole ∙ head))

-- and only there
pub before-is_last : (order : List ℕ) (first last : ℕ) (run others : List ℕ) → is_distinct order ≡ true → IsParted order first last run others → predecessor order first ≡ last → others ≡ []
before-is_last order first last run [] d p e = refl
before-is_last order first last run (x ∷ xs) d p e = absurd (both_ways (is_member last (x ∷ xs)) (distinct-append_apart run (x ∷ xs) (parts-distinct order first last run (x ∷ xs) p d) last (last-run order first last run (x ∷ xs) p)) there)
  where
    there : is_member last (x ∷ xs) ≡ true
    there =
        let w = last-cut x xs in
        let y : w.1 ≡ last = sym (before-run order first last run w.0 w.1 d (subst (λ (o : List ℕ). IsParted order first last run o) w.2 p)) ∙ e in
        subst (λ (l : List ℕ). is_member last l ≡ true) (sym w.2) (member-append_right last w.0 (w.1 ∷ []) (subst (λ (z : ℕ). is_member last (z ∷ []) ≡ true) (sym y) (member-head last [])))

-- the new order holds the same edges: where the run is moved
pub moved-permutation : (order : List ℕ) (first last edge : ℕ) (run front back : List ℕ) → IsParted order first last run (front ++ edge ∷ back) → IsPermutation order (front ++ edge ∷ (run ++ back))
moved-permutation order first last edge run front back p =
    IsPermutation-trans order (run ++ (front ++ edge ∷ back)) (front ++ edge ∷ (run ++ back)) (IsTurn-permutation order (run ++ (front ++ edge ∷ back)) p.round)
    (subst (λ (l : List ℕ). IsPermutation l (front ++ edge ∷ (run ++ back))) from (subst (λ (l : List ℕ). IsPermutation ((run ++ (front ++ edge ∷ [])) ++ back) l) to
    (IsPermutation-append_left back (run ++ (front ++ edge ∷ [])) ((front ++ edge ∷ []) ++ run) (IsPermutation-append_comm run (front ++ edge ∷ [])))))
  where
    from : (run ++ (front ++ edge ∷ [])) ++ back ≡ run ++ (front ++ edge ∷ back)
    from = append_assoc run (front ++ edge ∷ []) back ∙ ap (λ (l : List ℕ). run ++ l) (append_assoc front (edge ∷ []) back)

    to : ((front ++ edge ∷ []) ++ run) ++ back ≡ front ++ edge ∷ (run ++ back)
    to = append_assoc (front ++ edge ∷ []) run back ∙ append_assoc front (edge ∷ []) (run ++ back)

-- and where it is turned
pub turned-permutation : (order : List ℕ) (first last : ℕ) (run others : List ℕ) → IsParted order first last run others → IsPermutation order (reverse run ++ others)
turned-permutation order first last run others p =
    IsPermutation-trans order (run ++ others) (reverse run ++ others) (IsTurn-permutation order (run ++ others) p.round) (IsPermutation-append_left others run (reverse run) (IsPermutation-reverse run))

-- a list cut at a place
pub cut-place : (l : List ℕ) (i : ℕ) → i < length l → (front : List ℕ) × (back : List ℕ) × (l ≡ front ++ get_or l i 0 ∷ back) × (length front ≡ i)
cut-place [] i m = absurd (omega arith)
cut-place (x ∷ xs) zero m = ([], xs, refl, refl)
cut-place (x ∷ xs) (suc i) m = let w = cut-place xs i (omega arith) in (x ∷ w.0, w.1, ap (λ (o : List ℕ). x ∷ o) w.2, ap suc w.3)

-- an edge behind a run, by the parts of the list
outside-lists : (E run G B : List ℕ) (edge first last : ℕ) (o : List ℕ) → IsRun first last run → o ≡ E ++ (run ++ (G ++ edge ∷ B)) → IsOutside o first last edge
outside-lists E run G B edge first last o r is = record {
  run = run;
  front = G;
  back = B ++ E;
  parted = record {
    is_run = r;
    round = record {
      front = E;
      back = run ++ (G ++ edge ∷ B);
      before = is;
      after = sym (append_assoc run (G ++ edge ∷ B) E ∙ ap (λ (l : List ℕ). run ++ l) (append_assoc G (edge ∷ B) E));
    };
  };
}

-- by its place
pub outside-at : (o : List ℕ) (i j k : ℕ) → i ≤ j → j < k → k < length o → IsOutside o (get_or o i 0) (get_or o j 0) (get_or o k 0)
outside-at o i j k ij jk kl = elim (cases_eq i j) [
  | inl same ↦ subst (λ (x : ℕ). IsOutside o (get_or o x 0) (get_or o j 0) (get_or o k 0)) (sym same)
      (subst (λ (x : ℕ). IsOutside o x x (get_or o k 0)) at_j
      (outside-lists second.0 (get_or third.0 j 0 ∷ []) second.1 third.1 (get_or o k 0) (get_or third.0 j 0) (get_or third.0 j 0) o
      (record { behind = []; begins = refl; ahead = []; ends = refl }) two))
  | inr n ↦ run (omega arith) (cut-place second.0 i (omega (arith, second.3)))
]
  where
    third : (front : List ℕ) × (back : List ℕ) × (o ≡ front ++ get_or o k 0 ∷ back) × (length front ≡ k)
    third = cut-place o k kl

    second : (front : List ℕ) × (back : List ℕ) × (third.0 ≡ front ++ get_or third.0 j 0 ∷ back) × (length front ≡ j)
    second = cut-place third.0 j (omega (arith, third.3))

    at_j : get_or third.0 j 0 ≡ get_or o j 0
    at_j = sym (ap (λ (l : List ℕ). get_or l j 0) third.2 ∙ get_or_append_left third.0 (get_or o k 0 ∷ third.1) 0 j (omega (arith, third.3)))

    two : o ≡ second.0 ++ (get_or third.0 j 0 ∷ (second.1 ++ get_or o k 0 ∷ third.1))
    two = third.2 ∙ (ap (λ (l : List ℕ). l ++ get_or o k 0 ∷ third.1) second.2 ∙ append_assoc second.0 (get_or third.0 j 0 ∷ second.1) (get_or o k 0 ∷ third.1))

    at_i : i < j → get_or second.0 i 0 ≡ get_or o i 0
    at_i less = sym (ap (λ (l : List ℕ). get_or l i 0) two ∙ get_or_append_left second.0 (get_or third.0 j 0 ∷ (second.1 ++ get_or o k 0 ∷ third.1)) 0 i (omega (arith, second.3)))

    run : i < j → (front : List ℕ) × (back : List ℕ) × (second.0 ≡ front ++ get_or second.0 i 0 ∷ back) × (length front ≡ i) → IsOutside o (get_or o i 0) (get_or o j 0) (get_or o k 0)
    run less first =
        subst (λ (x : ℕ). IsOutside o x (get_or o j 0) (get_or o k 0)) (at_i less) (subst (λ (x : ℕ). IsOutside o (get_or second.0 i 0) x (get_or o k 0)) at_j
        (outside-lists first.0 (get_or second.0 i 0 ∷ (first.1 ++ get_or third.0 j 0 ∷ [])) second.1 third.1 (get_or o k 0) (get_or second.0 i 0) (get_or third.0 j 0) o
        (record { behind = first.1 ++ get_or third.0 j 0 ∷ []; begins = refl; ahead = get_or second.0 i 0 ∷ first.1; ends = refl })
        (two ∙ (ap (λ (l : List ℕ). l ++ (get_or third.0 j 0 ∷ (second.1 ++ get_or o k 0 ∷ third.1))) first.2
        ∙ (append_assoc first.0 (get_or second.0 i 0 ∷ first.1) (get_or third.0 j 0 ∷ (second.1 ++ get_or o k 0 ∷ third.1))
        ∙ ap (λ (l : List ℕ). first.0 ++ get_or second.0 i 0 ∷ l) (sym (append_assoc first.1 (get_or third.0 j 0 ∷ []) (second.1 ++ get_or o k 0 ∷ third.1))))))))
