-- The keys and the values of four lists of records, one behind the other. Rests on the laws of lists.
use mathlib.Core.Path.{◌≡◌, ◌∙◌, ap}
use mathlib.Core.List.{List, ◌++◌, map-append}
use Rattle.definitions.specs.List.{Record, keys_of, values_of}

pub four_keys : (a b c d : List Record) → keys_of (a ++ (b ++ (c ++ d))) ≡ keys_of a ++ (keys_of b ++ (keys_of c ++ keys_of d))
four_keys a b c d =
    map-append (λ x. x.key) a (b ++ (c ++ d))
    ∙ ap (λ l. keys_of a ++ l) (map-append (λ x. x.key) b (c ++ d) ∙ ap (λ l. keys_of b ++ l) (map-append (λ x. x.key) c d))

pub four_values : (a b c d : List Record) → values_of (a ++ (b ++ (c ++ d))) ≡ values_of a ++ (values_of b ++ (values_of c ++ values_of d))
four_values a b c d =
    map-append (λ x. x.value) a (b ++ (c ++ d))
    ∙ ap (λ l. values_of a ++ l) (map-append (λ x. x.value) b (c ++ d) ∙ ap (λ l. values_of b ++ l) (map-append (λ x. x.value) c d))
