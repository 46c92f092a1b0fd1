use Rattle.std.proofs.Common.{rules}
use Rattle.folder_core.proofs.Shown.{shown_backslash, shown_feed, shown_return, shown_tab, shown_hidden, shown_itself}
use Rattle.folder_core.proofs.quotes.push_char.Goals as goal

pub returns-in-92 : goal.returns-in-92
returns-in-92 c = search (rules, shown_backslash)

pub returns-in-10 : goal.returns-in-10
returns-in-10 c = search (rules, shown_feed)

pub returns-in-13 : goal.returns-in-13
returns-in-13 c = search (rules, shown_return)

pub returns-in-9 : goal.returns-in-9
returns-in-9 c = search (rules, shown_tab)

pub returns-in_ok-escape-in_default : goal.returns-in_ok-escape-in_default
returns-in_ok-escape-in_default c = search (rules, shown_hidden)

pub returns-in_default-2 : goal.returns-in_default-2
returns-in_default-2 c = search (rules, shown_itself)
