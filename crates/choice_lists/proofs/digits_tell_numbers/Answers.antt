use Rattle.choice_lists.proofs.Numbers.{radix-append, product_of-append, radix-below, digits-number, radix-more}
use Rattle.choice_lists.proofs.Laws.{number-of_digits, from-first}
use Rattle.choice_lists.proofs.digits_tell_numbers.Goals as goal

pub returns : goal.returns
returns c = record { below = radix-below; forth = digits-number; back = number-of_digits; from_first = from-first; from_last = radix-more; parts = radix-append; product = product_of-append }
