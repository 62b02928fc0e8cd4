-- What it means to put a text on a page: lent bytes, and the place that the text on them has come to.
use Rattle.std.specs.Prelude.{◌≡◌, List, ℕ, ◌+◌, ◌≤◌, length}
use Rattle.sheet.specs.declared.page.Page.{Page}
use Rattle.sheet.specs.Text.{Put}

-- there is room on a page for a text
abbrev pub HasRoom : Page → List ℕ → Type 0
HasRoom page text = page.at + length text ≤ length page.bytes.now

-- a page got a text: its bytes are the lent ones still, as many, and the text stands in them behind what stood there, within them
pub record Gets (page : Page) (text : List ℕ) (page_now : Page) : Type 0 where
  pub lent : page_now.bytes.ghost_name ≡ page.bytes.ghost_name
  pub long : length page_now.bytes.now ≡ length page.bytes.now
  pub put : Put page.bytes.now page.at text page_now.bytes.now page_now.at
  pub within : page_now.at ≤ length page_now.bytes.now
