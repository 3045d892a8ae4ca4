-- Which references stand near a module: the distance, the order, what each query chooses, the list that it gives, and the refusals. Definitions only.
use Rattle.std.specs.Prelude.{◌≡◌, ◌⊎◌, Bool, true, false, not, cond, ◌||◌, ◌&&◌, List, [], ◌∷◌, ◌++◌, ℕ, zero, suc, ◌+◌, ◌*◌, ◌/◌, ◌%◌, ◌≤◌, ◌<◌, ltb, eqb, ℤ, pos, length, get_or, set, take, drop, Float}
use Rattle.std.specs.Float.{nan, inf, binary32, binary64}
use Rattle.std.specs.Float.Ieee.{round, of_int, add, sub, mul, lt, le, eq}
use Rattle.loops.specs.Loops.{any_up}
use Rattle.floatlaws.specs.Value.{unit, hi, lo}
use Rattle.sentences.specs.Sentences.{Sentence, ◌when◌, refusal, decided}
use Rattle.limits.specs.Limits.{bad_side}
use Rattle.places.specs.Places.{outside}
use Rattle.references.specs.References.{bad_position, too_many}
use Rattle.answers.specs.Answers.{Said, refused_by, gives}
use Rattle.near.specs.declared.Query.{Query}
use Rattle.near.specs.declared.Query.TheVariants as query
use Rattle.near.specs.Order.{Once, Sorted, Has, Strict, Sifted}

-- ---- positions, two floats a reference

abbrev pub x_at : List Float → ℕ → Float
x_at xy i = get_or xy (2 * i) nan

abbrev pub y_at : List Float → ℕ → Float
y_at xy i = get_or xy (2 * i + 1) nan

-- "their centres half a module on"
unfoldable pub half : Float
half = round binary64 false 1 2

unfoldable pub centre : ℤ → Float
centre v = add binary64 (of_int binary64 v) half

-- "Distances are squared in f64 from the stored positions to the module's centre": each operation rounds once
unfoldable pub distance : List Float → Float → Float → ℕ → Float
distance xy cx cy i =
    let dx = sub binary64 (x_at xy i) cx in
    let dy = sub binary64 (y_at xy i) cy in
    add binary64 (mul binary64 dx dx) (mul binary64 dy dy)

-- "nearest first, equal distances in reference order"
unfoldable pub before : List Float → Float → Float → ℕ → ℕ → Bool
before xy cx cy i j =
    lt (distance xy cx cy i) (distance xy cx cy j)
    || (eq (distance xy cx cy i) (distance xy cx cy j) && ltb i j)

-- ---- which references are listed

-- a is at most c, and c at most b
unfoldable pub rising : Float → Float → Float → Bool
rising a c b = le a c && le c b

-- c is at or between a and b
unfoldable pub between : Float → Float → Float → Bool
between a c b = rising a c b || rising b c a

-- what the query asks of reference i: nothing; that it is within the radius; that the column's centre lies at or between its x and the
-- x of the module's centre
unfoldable pub asked : Query → List Float → Float → Float → ℕ → Bool
asked query.Nearest xy cx cy i = true
asked (query.Within r) xy cx cy i = le (distance xy cx cy i) (mul binary64 r r)
asked (query.CutOff c) xy cx cy i = between (x_at xy i) (centre c) cx

-- reference i was kept
unfoldable pub is_kept : List ℕ → ℕ → Bool
is_kept kept i = not (eqb (get_or kept i 0) 0)

unfoldable pub chosen : Query → List Float → List ℕ → Float → Float → ℕ → Bool
chosen q xy kept cx cy i = is_kept kept i && asked q xy cx cy i

-- ---- the lists

-- i put into a list: before the first that it comes before
unfoldable pub inserted : (ℕ → ℕ → Bool) → ℕ → List ℕ → List ℕ
inserted b i [] = i ∷ []
inserted b i (j ∷ l) = cond (b i j) (i ∷ j ∷ l) (j ∷ inserted b i l)

-- the chosen ones of the references below n, each put in its place
unfoldable pub listed : (ℕ → ℕ → Bool) → (ℕ → Bool) → ℕ → List ℕ
listed b chosen zero = []
listed b chosen (suc i) = cond (chosen i) (inserted b i (listed b chosen i)) (listed b chosen i)

-- "the three nearest (all, if fewer), all within a radius, or all that a given column cuts off"
unfoldable pub queried : Query → (ℕ → ℕ → Bool) → (ℕ → Bool) → ℕ → List ℕ
queried query.Nearest b chosen n = take 3 (listed b chosen n)
queried (query.Within r) b chosen n = listed b chosen n
queried (query.CutOff c) b chosen n = listed b chosen n

-- ---- what the lists are

-- the first m places of a list are chosen references below n, none twice, in order
pub record Among (b : ℕ → ℕ → Bool) (chosen : ℕ → Bool) (n m : ℕ) (o : List ℕ) : Type 0 where
  pub each : (j : ℕ) → j < m → (get_or o j 0 < n) × (chosen (get_or o j 0) ≡ true)
  pub once : Once m o
  pub sorted : Sorted b m o

-- they are all of them
pub record All (b : ℕ → ℕ → Bool) (chosen : ℕ → Bool) (n m : ℕ) (o : List ℕ) : Type 0 where
  pub among : Among b chosen n m o
  pub all : (i : ℕ) → i < n → chosen i ≡ true → Has m o i

-- they are the first three of them, and all, if fewer: one that is not listed comes after three that are
pub record FirstThree (b : ℕ → ℕ → Bool) (chosen : ℕ → Bool) (n m : ℕ) (o : List ℕ) : Type 0 where
  pub among : Among b chosen n m o
  pub most : m ≤ 3
  pub all : (i : ℕ) → i < n → chosen i ≡ true → Has m o i ⊎ ((m ≡ 3) × ((j : ℕ) → j < m → b (get_or o j 0) i ≡ true))

-- "whose rest stays": from m on p is o
pub record Rest (m : ℕ) (o p : List ℕ) : Type 0 where
  pub long : length p ≡ length o
  pub stays : (j : ℕ) → m ≤ j → get_or p j 0 ≡ get_or o j 0

-- ---- the steps by which they are found

-- the references below i, in their order, m of them
pub record Collected (chosen : ℕ → Bool) (i m : ℕ) (o p : List ℕ) : Type 0 where
  pub under : m ≤ i
  pub each : (j : ℕ) → j < m → (get_or p j 0 < i) × (chosen (get_or p j 0) ≡ true)
  pub once : Once m p
  pub all : (k : ℕ) → k < i → chosen k ≡ true → Has m p k
  pub rest : Rest m o p

-- i is offered to the first three, m of which are there: it is passed over, added, left out as the last, or put for the last
pub data Offered (b : ℕ → ℕ → Bool) (chosen : ℕ → Bool) (n i m : ℕ) (o : List ℕ) (r : ℕ) (p : List ℕ) : Type 0 where
  passed : chosen i ≡ false → r ≡ m → p ≡ o → Offered b chosen n i m o r p
  added : chosen i ≡ true → m < 3 → r ≡ m + 1 → Sifted b n 1 m (set o m i) p → Offered b chosen n i m o r p
  last : chosen i ≡ true → 3 ≤ m → b i (get_or o 2 0) ≡ false → r ≡ m → p ≡ o → Offered b chosen n i m o r p
  instead : chosen i ≡ true → 3 ≤ m → b i (get_or o 2 0) ≡ true → r ≡ m → Sifted b n 1 2 (set o 2 i) p → Offered b chosen n i m o r p

-- the first three of those below i
pub record Leading (b : ℕ → ℕ → Bool) (chosen : ℕ → Bool) (i m : ℕ) (o p : List ℕ) : Type 0 where
  pub under : m ≤ i
  pub three : FirstThree b chosen i m p
  pub rest : Rest m o p

-- ---- what is promised of each query

unfoldable pub IsPromised : Query → (ℕ → ℕ → Bool) → (ℕ → Bool) → ℕ → ℕ → List ℕ → Type 0
IsPromised query.Nearest b chosen n m o = FirstThree b chosen n m o
IsPromised (query.Within r) b chosen n m o = All b chosen n m o
IsPromised (query.CutOff c) b chosen n m o = All b chosen n m o

-- two lists, m places of o and l of p, are one
pub record SameList (m : ℕ) (o : List ℕ) (l : ℕ) (p : List ℕ) : Type 0 where
  pub count : m ≡ l
  pub same : (j : ℕ) → j < m → get_or o j 0 ≡ get_or p j 0

-- the square of r, as f64 has it, is exact: in units, of which 1 has `unit`, r is `hi` - `lo`
pub record SquareExact (r : Float) : Type 0 where
  pub size : hi binary64 (mul binary64 r r) * unit binary64 ≡ hi binary64 r * hi binary64 r
  pub not-below : (lo binary64 r ≡ 0) × (lo binary64 (mul binary64 r r) ≡ 0)

-- of the query's radius, where it has one
unfoldable pub IsRadiusSquared : Query → Type 0
IsRadiusSquared query.Nearest = Unit
IsRadiusSquared (query.Within r) = SquareExact r
IsRadiusSquared (query.CutOff c) = Unit

-- ---- the refusals

-- 5: "lent room of one place a reference"; two floats and one mark a reference
unfoldable pub short : ℕ → ℕ → ℕ → Bool
short floats marks places = not (eqb (floats % 2) 0) || (ltb marks (floats / 2) || ltb places (floats / 2))

-- 7, of a reference
unfoldable pub misplaced_at : ℕ → List Float → ℕ → Bool
misplaced_at side xy i = bad_position side (x_at xy i) || bad_position side (y_at xy i)

abbrev pub bad_positions : ℕ → List Float → ℕ → Bool
bad_positions side xy n = any_up 0 n (misplaced_at side xy)

-- 7, of a column: "Module and column run from -6 to side + 5 (else 7)"
unfoldable pub bad_column : ℕ → Query → Bool
bad_column side query.Nearest = false
bad_column side (query.Within r) = false
bad_column side (query.CutOff c) = outside side 6 c

-- 7, of the module at (x, y) and of the query
unfoldable pub bad_module : ℕ → ℤ → ℤ → Query → Bool
bad_module side x y q = outside side 6 x || (outside side 6 y || bad_column side q)

unfoldable pub bad_places : ℕ → List Float → ℕ → ℤ → ℤ → Query → Bool
bad_places side xy n x y q = bad_positions side xy n || bad_module side x y q

-- 15: "where the radius is negative or not finite"
unfoldable pub wild_radius : Float → Bool
wild_radius r = not (le (of_int binary32 (pos 0)) r && lt r (inf false))

unfoldable pub bad_radius : Query → Bool
bad_radius query.Nearest = false
bad_radius (query.Within r) = wild_radius r
bad_radius (query.CutOff c) = false

-- ---- the call

pub record Request : Type 0 where
  pub xy : List Float
  pub kept : List ℕ
  pub side : ℕ
  pub x : ℤ
  pub y : ℤ
  pub query : Query
  pub out : List ℕ

abbrev pub request : List Float → List ℕ → ℕ → ℤ → ℤ → Query → List ℕ → Request
request xy kept side x y q out = record { xy = xy; kept = kept; side = side; x = x; y = y; query = q; out = out }

abbrev pub references : Request → ℕ
references q = length q.xy / 2

unfoldable pub sentences_of : Request → List Sentence
sentences_of q =
    (2 when bad_side q.side) ∷
    (5 when short (length q.xy) (length q.kept) (length q.out)) ∷
    (6 when too_many (references q)) ∷
    (7 when bad_places q.side q.xy (references q) q.x q.y q.query) ∷ (15 when bad_radius q.query) ∷
    []

-- the order and the choice that the request asks for
abbrev pub before_of : Request → ℕ → ℕ → Bool
before_of q = before q.xy (centre q.x) (centre q.y)

abbrev pub chosen_of : Request → ℕ → Bool
chosen_of q = chosen q.query q.xy q.kept (centre q.x) (centre q.y)

abbrev pub list_of : Request → List ℕ
list_of q = queried q.query (before_of q) (chosen_of q) (references q)

-- what the call answers, and the room that it leaves
pub record Final : Type 0 where
  pub said : Said ℕ
  pub out : List ℕ

abbrev pub final : Said ℕ → List ℕ → Final
final s out = record { said = s; out = out }

-- "in lent room of one place a reference, whose rest stays"
abbrev pub written : List ℕ → List ℕ → List ℕ
written l out = l ++ drop (length l) out

-- refused: the number of the first sentence that holds, and the room as it was; else how many places are listed, and the list
unfoldable pub near_of : Request → Final
near_of q = decided (refusal (sentences_of q)) (λ n. final (refused_by n) q.out) (final (gives (length (list_of q))) (written (list_of q) q.out))

-- what holds of the list that an accepted call leaves
pub record Found (q : Request) (after : List ℕ) : Type 0 where
  -- sorted, without repetition, and complete
  pub list : IsPromised q.query (before_of q) (chosen_of q) (references q) (length (list_of q)) after
  -- any two references stand one before the other, so that no other list is
  pub order : Strict (before_of q) (references q)
  pub only : (l : ℕ) (other : List ℕ) → IsPromised q.query (before_of q) (chosen_of q) (references q) l other → SameList (length (list_of q)) after l other
  pub radius : IsRadiusSquared q.query
