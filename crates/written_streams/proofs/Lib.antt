mod WrittenTexts
mod WatchCalls
