-- What a card is read from once its model and its noise record are there, and how much of it there is in a card file. Definitions only.
use Rattle.std.specs.Prelude.{List, ℕ, ◌+◌, ◌≤◌, ℤ, Float}
use Rattle.card.specs.declared.Settings.{Settings}

-- the settings, the palette, the modules' positions and raw colours, the cells' coordinates and raw colours
pub record Sheet : Type 0 where
  pub settings : Settings
  pub palette : List Float
  pub xs : List ℤ
  pub ys : List ℤ
  pub raw : List Float
  pub cxs : List ℕ
  pub cys : List ℕ
  pub craw : List Float

abbrev pub sheet : Settings → List Float → List ℤ → List ℤ → List Float → List ℕ → List ℕ → List Float → Sheet
sheet settings palette xs ys raw cxs cys craw =
    record { settings = settings; palette = palette; xs = xs; ys = ys; raw = raw; cxs = cxs; cys = cys; craw = craw }

-- what is in a file of at most 16,384 bytes, of m modules and c cells: 32 bytes a hue, 16 bytes a module and a cell
pub record Few (settings : Settings) (m c : ℕ) : Type 0 where
  pub side : settings.side ≤ 64
  pub hues : settings.hues ≤ 510
  pub both : m + c ≤ 1020
