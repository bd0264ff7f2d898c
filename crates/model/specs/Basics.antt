-- Tests and lists that all the definitions share.
use Rattle.std.specs.List.{list_all, list_any}
use Rattle.std.specs.Prelude.{Bool, true, false, ◌&&◌, ◌||◌, List, [], ◌∷◌, ℕ, zero, suc, eqb}

abbrev pub pick : {A : Type 0} → Bool → A → A → A
pick true a b = a
pick false a b = b

-- 1 for yes, 0 for no
abbrev pub flag : Bool → ℕ
flag b = pick b 1 0

abbrev pub is_in : ℕ → List ℕ → Bool
is_in x = list_any (eqb x)

abbrev pub every : {A : Type 0} → (A → Bool) → List A → Bool
every = list_all

-- all of these hold
abbrev pub all_of : List Bool → Bool
all_of [] = true
all_of (x ∷ []) = x
all_of (x ∷ y ∷ zs) = x && all_of (y ∷ zs)

-- the place of the first that passes; the length for none
abbrev pub first_by : (ℕ → Bool) → List ℕ → ℕ
first_by f [] = 0
first_by f (m ∷ ms) = elim (f m) [ true ↦ 0 | false ↦ suc (first_by f ms) ]

-- rule 6.1: refusal n unless the test holds, else what is tested next; 0 is no refusal
abbrev pub unless : Bool → ℕ → ℕ → ℕ
unless true n next = next
unless false n next = n

-- rule 6.1: the first refusal, or the second where there is no first
abbrev pub first_of : ℕ → ℕ → ℕ
first_of zero next = next
first_of (suc n) next = suc n
