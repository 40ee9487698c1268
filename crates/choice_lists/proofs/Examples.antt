-- The definitions computed on small lists, and on the worked blocks.
use Rattle.std.proofs.Common.{◌≡◌, ℕ, zero, suc, nat_lt, true, ◌==◌, [], ◌∷◌, Some, None, refl, subst, arith}
use Rattle.choice_lists.proofs.Places.{At, rising-from}
use Rattle.choice_lists.specs.Order.{vector_before}
use Rattle.choice_lists.specs.Arrangements.{arrangements, factorial_number, numbered, factorial, IsNextArrangement}
use Rattle.choice_lists.specs.Choices.{bond_choices, rigid_choices}
use Rattle.choice_lists.specs.Products.{product, IsNextVector}
use Rattle.choice_lists.specs.Numbers.{radix_number, product_below}
use Rattle.choice_lists.specs.Locks.{locked_lists}

-- the six arrangements of three keys, and their numbers
six : arrangements (1 ∷ 4 ∷ 7 ∷ []) ≡ (1 ∷ 4 ∷ 7 ∷ []) ∷ (1 ∷ 7 ∷ 4 ∷ []) ∷ (4 ∷ 1 ∷ 7 ∷ []) ∷ (4 ∷ 7 ∷ 1 ∷ []) ∷ (7 ∷ 1 ∷ 4 ∷ []) ∷ (7 ∷ 4 ∷ 1 ∷ []) ∷ []
six = refl

number : factorial_number (4 ∷ 7 ∷ 1 ∷ []) ≡ 3
number = refl

back : numbered (1 ∷ 4 ∷ 7 ∷ []) 3 ≡ 4 ∷ 7 ∷ 1 ∷ []
back = refl

-- after 1 7 4 comes 4 1 7
after : IsNextArrangement (1 ∷ 7 ∷ 4 ∷ []) (4 ∷ 1 ∷ 7 ∷ [])
after = record {
  front = [];
  x = 1;
  upper = 7 ∷ [];
  y = 4;
  lower = [];
  before = refl;
  falls = rising-from (λ u v. nat_lt v u) (7 ∷ 4 ∷ []) (falls-two, (λ i y m. absurd m, tt));
  greater = omega arith;
  no_later = λ i d l. absurd (omega arith);
  after = refl;
}
  where
    falls-two : (i y : ℕ) → At (4 ∷ []) i y → nat_lt y 7 ≡ true
    falls-two zero y e = subst (λ z. nat_lt z 7 ≡ true) e refl
    falls-two (suc i) y e = absurd e

-- after 1 0 1 in two times two times two comes 1 1 0
after_vector : IsNextVector {X = ℕ} ((0 ∷ 1 ∷ []) ∷ (0 ∷ 1 ∷ []) ∷ (0 ∷ 1 ∷ []) ∷ []) (1 ∷ 0 ∷ 1 ∷ []) (1 ∷ 1 ∷ 0 ∷ [])
after_vector = record {
  ahead = (0 ∷ 1 ∷ []) ∷ [];
  here = 0 ∷ 1 ∷ [];
  behind = (0 ∷ 1 ∷ []) ∷ [];
  lists = refl;
  front = 1 ∷ [];
  chosen = ((1, omega arith, refl), tt);
  place = 0;
  x = 0;
  y = 1;
  at_x = (omega arith, refl);
  at_y = (omega arith, refl);
  lasts = 1 ∷ [];
  firsts = 0 ∷ [];
  all_last = (record { others = 0 ∷ []; is = refl }, tt);
  all_first = (record { others = 1 ∷ []; is = refl }, tt);
  before = refl;
  after = refl;
}

-- the two choices of the complete graph on four vertices: rotation at vertex 0
tetrahedron : rigid_choices (0 ∷ 2 ∷ 1 ∷ []) ≡ (0 ∷ 1 ∷ 2 ∷ []) ∷ (0 ∷ 2 ∷ 1 ∷ []) ∷ []
tetrahedron = refl

-- three parallel edges
parallel : bond_choices (0 ∷ 1 ∷ 2 ∷ []) ≡ (0 ∷ 1 ∷ 2 ∷ []) ∷ (0 ∷ 2 ∷ 1 ∷ []) ∷ []
parallel = refl

-- two complete graphs on four vertices without the edge between the shared two: two rigid nodes
two_rigid : product (rigid_choices (0 ∷ 1 ∷ 5 ∷ []) ∷ rigid_choices (0 ∷ 5 ∷ 6 ∷ []) ∷ [])
    ≡ ((0 ∷ 1 ∷ 5 ∷ []) ∷ (0 ∷ 5 ∷ 6 ∷ []) ∷ []) ∷ ((0 ∷ 1 ∷ 5 ∷ []) ∷ (0 ∷ 6 ∷ 5 ∷ []) ∷ []) ∷ ((0 ∷ 5 ∷ 1 ∷ []) ∷ (0 ∷ 5 ∷ 6 ∷ []) ∷ []) ∷ ((0 ∷ 5 ∷ 1 ∷ []) ∷ (0 ∷ 6 ∷ 5 ∷ []) ∷ []) ∷ []
two_rigid = refl

-- with the first place locked
one_locked : product (locked_lists (λ k. k == 0) ((0 ∷ 5 ∷ 1 ∷ []) ∷ (0 ∷ 5 ∷ 6 ∷ []) ∷ []) (rigid_choices (0 ∷ 1 ∷ 5 ∷ []) ∷ rigid_choices (0 ∷ 5 ∷ 6 ∷ []) ∷ []))
    ≡ ((0 ∷ 5 ∷ 1 ∷ []) ∷ (0 ∷ 5 ∷ 6 ∷ []) ∷ []) ∷ ((0 ∷ 5 ∷ 1 ∷ []) ∷ (0 ∷ 6 ∷ 5 ∷ []) ∷ []) ∷ []
one_locked = refl

-- digits 1, 0, 2 in the radices 2, 2, 3
digits : radix_number (2 ∷ 2 ∷ 3 ∷ []) (1 ∷ 0 ∷ 2 ∷ []) ≡ 8
digits = refl

-- 34! is below 2^128, 35! is not
fits : product_below 340282366920938463463374607431768211456 1 (factorial 34 ∷ []) ≡ Some 295232799039604140847618609643520000000
fits = refl

over : product_below 340282366920938463463374607431768211456 1 (factorial 35 ∷ []) ≡ None
over = refl

-- the first difference decides, not the last
first_difference : vector_before ((0 ∷ 1 ∷ []) ∷ (0 ∷ 2 ∷ []) ∷ []) ((0 ∷ 2 ∷ []) ∷ (0 ∷ 1 ∷ []) ∷ []) ≡ true
first_difference = refl
