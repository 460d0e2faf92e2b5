mod EarlyFollows
