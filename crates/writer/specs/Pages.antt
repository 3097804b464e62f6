-- A page before and after a text was put on it.
use Rattle.std.specs.Prelude.{◌≡◌, ℕ, List}
use Rattle.writer.specs.declared.page.Page.{Page}
use Rattle.writer.specs.Buffer.{Put, Room}

-- the page has room for w
abbrev pub HasRoom : List ℕ → Page → Type 0
HasRoom w p = Room p.at w p.buf.now

-- w was put on the page, which is still on the same buffer
pub record Grows (w : List ℕ) (was is : Page) : Type 0 where
  pub lent : is.buf.ghost_name ≡ was.buf.ghost_name
  pub put : Put was.at is.at w was.buf.now is.buf.now
